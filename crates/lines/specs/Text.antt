-- The text of a line, and the line of a text.
use Rattle.std.specs.Prelude.{ℕ, ◌+◌, ◌-◌, ◌≤◌, ◌≡◌, List, ◌++◌, length, take, drop, replicate}
use Rattle.std.proofs.Common.{sym, ◌∙◌, ap, ap₂, arith}
use Rattle.std.proofs.lemmas.List.{length-append, length-replicate, take-append-drop, take_at, drop_at}
use Rattle.lines.specs.Limits.{longest_line}
use Rattle.lines.specs.declared.text.Line.TheInside.{Inside}

abbrev pub text_of : Inside → List ℕ
text_of l = drop l.start l.bytes

-- the bytes before the text are zero
abbrev pub Clear : Inside → Type 0
Clear l = take l.start l.bytes ≡ replicate l.start 0

-- the line is this text
pub record Reads (r : Inside) (text : List ℕ) : Type 0 where
  pub size : length r.bytes ≡ longest_line
  pub start : r.start + length text ≡ longest_line
  pub says : text_of r ≡ text
  pub clear : Clear r

-- the line that is a text
abbrev pub line_of : List ℕ → Inside
line_of text =
    let start = longest_line - length text in
    record { bytes = replicate start 0 ++ text; start = start }

line_reads : (text : List ℕ) → length text ≤ longest_line → Reads (line_of text) text
line_reads text few = record {
  size = simp (length-append, length-replicate) (omega arith);
  start = omega arith;
  says = drop_at (replicate (longest_line - length text) 0) text _ (length-replicate _ _);
  clear = take_at (replicate (longest_line - length text) 0) text _ (length-replicate _ _);
}

-- a text is one line
pub reads_unique : {a b : Inside} {text : List ℕ} → Reads a text → Reads b text → a ≡ b
reads_unique {a} {b} {text} p q =
    let same : a.start ≡ b.start = omega (arith, p.start, q.start) in
    let bytes = whole p ∙ ap (λ (k : ℕ). replicate k 0 ++ text) same ∙ sym (whole q) in
    λ i. record { bytes = bytes i; start = same i }
  where
    whole : {l : Inside} → Reads l text → l.bytes ≡ replicate l.start 0 ++ text
    whole {l} so = sym (take-append-drop l.start l.bytes) ∙ ap₂ ◌++◌ so.clear so.says

pub reads_back : (l : Inside) → Reads l (text_of l) → line_of (text_of l) ≡ l
reads_back l so = reads_unique (line_reads (text_of l) (omega (arith, so.start))) so
