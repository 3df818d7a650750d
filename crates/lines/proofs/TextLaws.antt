-- What a line reads once bytes were put in front, and while its numbers are.
use Rattle.std.proofs.Common.{◌≡◌, ℕ, ◌+◌, ◌-◌, ◌*◌, ◌≤◌, List, [], ◌∷◌, ◌++◌, length, take, drop, ◌∙◌, refl, sym, ap, append_assoc, append-nil, arith}
use Rattle.std.proofs.lemmas.List.{length-append, length-drop, length-take-le, take-take, take-replicate, drop-drop, drop_at, length_push}
use Rattle.std.proofs.lemmas.Slice.{take-put_mid_below}
use borrow.Rule.Slice.PartMut.{put_mid}
use Rattle.rules.specs.Program.{decimal, fields}
use Rattle.lines.specs.Limits.{longest_line, longest_field}
use Rattle.lines.specs.Text.{text_of, Reads}
use Rattle.lines.specs.declared.text.Line.TheInside.{Inside}
use Rattle.lines.proofs.DecimalLaws.{decimal_length}

pub reads_itself : {l : Inside} {text : List ℕ} → Reads l text → Reads l (text_of l)
reads_itself so = record { size = so.size; start = rw so.says so.start; says = refl; clear = so.clear }

module _ {l : Inside} {text : List ℕ} (so : Reads l text) (front : List ℕ) (room : length front + length text ≤ longest_line) where
  pub put_reads : let k = l.start - length front in
      Reads (record { bytes = put_mid k (l.start - k) l.bytes front; start = k }) (front ++ text)
  put_reads =
      record {
        size = simp (length-append, length-drop) (omega (arith, so.start, so.size, length-take-le k l.bytes within));
        start = simp length-append (omega (arith, so.start));
        says = drop_at (take k l.bytes) _ k (length-take-le k l.bytes within) ∙ ap (λ (rest : List ℕ). front ++ rest) behind;
        clear =
            take-put_mid_below k (l.start - k) l.bytes front k (omega arith) within
            ∙ sym (take-take k l.start l.bytes (omega arith))
            ∙ ap (take k) so.clear
            ∙ take-replicate k l.start 0 (omega arith);
      }
    where
      k : ℕ
      k = l.start - length front

      within : k ≤ length l.bytes
      within = omega (arith, so.start, so.size)

      behind : drop (l.start - k) (drop k l.bytes) ≡ text
      behind = drop-drop (l.start - k) k l.bytes ∙ ap (λ (i : ℕ). drop i l.bytes) (omega arith) ∙ so.says

-- The line is the fields of the numbers that are not left, and has room for those that are.
pub record Spelt (numbers left text : List ℕ) : Type 0 where
  pub done : List ℕ
  pub split : left ++ done ≡ numbers
  pub says : text ≡ fields done
  pub short : length text + longest_field * length left ≤ longest_field * length numbers + 1

module _ {numbers left text : List ℕ} where
  pub spelt_none : left ≡ numbers → text ≡ 10 ∷ [] → Spelt numbers left text
  unfolding fields
  spelt_none e says =
      record { done = []; split = append-nil left ∙ e; says = says; short = omega (arith, ap length e, ap length says) }

  module _ (so : Spelt numbers left text) where
    pub spelt_more : (x : ℕ) {rest later : List ℕ} → left ≡ rest ++ x ∷ [] → later ≡ 32 ∷ decimal x ++ text → Spelt numbers rest later
    unfolding fields
    spelt_more x {rest} e says =
        record {
          done = x ∷ so.done;
          split = sym (append_assoc rest (x ∷ []) so.done) ∙ ap (λ (l : List ℕ). l ++ so.done) (sym e) ∙ so.split;
          says = says ∙ ap (λ (l : List ℕ). 32 ∷ decimal x ++ l) so.says;
          short =
              omega (
                arith,
                so.short,
                ap length e,
                length_push rest x,
                simp length-append at (ap length says),
                (decimal_length x).1,
              );
        }
