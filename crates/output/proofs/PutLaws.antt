-- Text written piece by piece.
use Rattle.std.proofs.Common.{◌≡◌, ℕ, ◌+◌, ◌-◌, ◌≤◌, List, ◌++◌, length, drop, refl, sym, ◌∙◌, ap, append_assoc, arith}
use Rattle.std.proofs.lemmas.List.{length-append, length-drop, length-take-le, drop-append-le, take-append-drop}
use Rattle.std.proofs.lemmas.Slice.{take-put_mid, drop-put_mid}
use borrow.Rule.Slice.PartMut.{put_mid}
use Rattle.std.specs.Array.{IsFirstChunk}
use Rattle.rules.specs.Rooms.{Put}
use Rattle.rules.proofs.PuttingLaws.{put_written}
use Rattle.rules.specs.Program.{network_part, request_part}
use Rattle.output.specs.Text.{text_places, PutPlan, Printed, short, whole}

-- values copied into a part of the room
pub put_copied : {at : ℕ} (values before : List ℕ) → at + length values ≤ length before
    → Put at values before (put_mid at (at + length values - at) before values) (at + length values)
put_copied {at} values before room =
    record {
      size = simp (length-append, length-drop) (omega (arith, length-take-le at before (omega arith)));
      ends = refl;
      within = room;
      says = take-put_mid at _ before values _ refl (omega arith);
      later = drop-put_mid at _ before values _ (omega arith) (omega arith) (omega arith);
    }

-- What was written for the parts of an input, at the front of the room, is what the program prints.
pub printed_whole : (input : List ℕ) {before room after : List ℕ} {end : ℕ} → IsFirstChunk before room text_places
    → PutPlan (network_part input) (request_part input) room after end → Printed input before (after ++ drop text_places before) end
printed_whole input {before} {room} {after} {end} front p = whole p.text front.enough p.tells written (omega (arith, p.put.ends))
  where
    rest : drop (length p.text) room ++ drop text_places before ≡ drop (length p.text) before
    rest =
        sym (drop-append-le (length p.text) room (drop text_places before) (omega (arith, p.put.ends, p.put.within)))
        ∙ ap (drop (length p.text)) (rw front.same (take-append-drop text_places before))

    written : after ++ drop text_places before ≡ p.text ++ drop (length p.text) before
    written = rw (put_written p.put, append_assoc, rest)

-- the text lies within the room
pub printed_within : {input before after : List ℕ} {count : ℕ} → Printed input before after count → count ≤ length after
printed_within (short room same none) = omega arith
printed_within {before = before} (whole text room tells written counts) =
    omega (arith, ap length written, length-append text (drop (length text) before))
