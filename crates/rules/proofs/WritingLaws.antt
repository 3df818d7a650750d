-- Writing a room element by element, from its start on.
use Prim.Native.Nat.{ℕ, ◌+◌, ◌-◌, ◌<◌, ◌≤◌}
use mathlib.Core.Path.{◌≡◌, sym, ap, ◌∙◌}
use mathlib.Core.List.{List, ◌++◌}
use native.Mathlib.Omega.{arith}
use borrow.Author.Count.{below_more}
use lib.ListN.{length, get_or, set, take, drop, take-append-drop}
use lib.Seq.{ext_get_or, get_or-take, get_or-set_same, get_or-set_other, drop-drop, length-take-le}
use Rattle.rules.specs.Rooms.{Kept, Written, WrittenTo}
use Rattle.rules.proofs.RoomLaws.{kept_none, kept_then, kept_set}

-- What was kept from a place on was kept from a later one on.
pub kept_later : {i k : ℕ} {before after : List ℕ} → i ≤ k → Kept i before after → Kept k before after
kept_later {i} {k} {before} {after} h so =
    let further : i + (k - i) ≡ k = omega arith in
    record {
      size = so.size;
      later = rw (← further, ← drop-drop (k - i) i after, ← drop-drop (k - i) i before) (ap (drop (k - i)) so.later);
    }

module _ {values : ℕ → ℕ} where
  pub written_none : {t : List ℕ} → WrittenTo values 0 t t
  written_none = record { within = omega arith; kept = kept_none; holds = λ j h. absurd (omega arith) }

  pub written_more : {i x : ℕ} {before t : List ℕ} → WrittenTo values i before t → i < length before → x ≡ values i
      → WrittenTo values (i + 1) before (set t i x)
  written_more {i} {x} {t = t} so h e =
      record {
        within = omega arith;
        kept = kept_then (kept_later (omega arith) so.kept) (kept_set t i x (omega arith));
        holds = below_more (λ (j : ℕ). get_or (set t i x) j 0 ≡ values j) i
            (λ j l. get_or-set_other t i j x 0 (omega arith) ∙ so.holds j l)
            (get_or-set_same t i x 0 (omega (arith, so.kept.size)) ∙ e);
      }

  -- Once there is a place written for each value, the values stand at the start of the room.
  pub written_all : {i : ℕ} {before t : List ℕ} (xs : List ℕ) → WrittenTo values i before t → length xs ≡ i
      → ((j : ℕ) → j < i → values j ≡ get_or xs j 0) → Written xs before t
  written_all {i} {before} {t} xs so size same =
      sym (take-append-drop i t)
      ∙ ap (λ (l : List ℕ). l ++ drop i t) front
      ∙ ap (λ (l : List ℕ). xs ++ l) (so.kept.later ∙ ap (λ (k : ℕ). drop k before) (sym size))
    where
      long : length (take i t) ≡ i
      long = length-take-le i t (omega (arith, so.within, so.kept.size))

      front : take i t ≡ xs
      front =
          ext_get_or 0 (take i t) xs (long ∙ sym size)
          (λ j h. get_or-take i t j 0 (omega (arith, long)) ∙ so.holds j (omega (arith, long)) ∙ same j (omega (arith, long)))
