-- Rows of a room, one after the other.
use Prim.Native.Nat.{ℕ, ◌+◌, ◌*◌, ◌≤◌, ◌<◌}
use mathlib.Core.Path.{◌≡◌, sym, ◌∙◌}
use mathlib.Core.List.{List, ◌++◌}
use native.Mathlib.Omega.{arith}
use lib.ListN.{length, get_or, drop, get_or-append}
use lib.Seq.{get_or-append-add, drop-append-add}
use borrow.Author.Count.{below_more}
use Rattle.std.proofs.Common.{length-append, length-drop}
use Rattle.std.proofs.lemmas.List.{drop_at}
use Rattle.rules.specs.Rooms.{Kept}
use Rattle.rules.proofs.RoomLaws.{kept_then, row_within, place_within}
use Rattle.rules.proofs.WritingLaws.{kept_later}
use Rattle.table.specs.Filling.{Rows}

-- A row is to come: the rows below it are in front, and the row and what lies behind it at the back.
pub record Turn (P : ℕ → ℕ → ℕ → Type 0) (n rows R : ℕ) (before front back : List ℕ) : Type 0 where
  pub row : R < rows
  pub places : rows * n ≤ length before
  pub starts : length front ≡ R * n
  pub so : Rows P n rows R before (front ++ back)

module _ {P : ℕ → ℕ → ℕ → Type 0} {n rows R : ℕ} {before front back : List ℕ} (turn : Turn P n rows R before front back) where
  at_front : (rest : List ℕ) (i v : ℕ) → i < R → v < n → get_or (front ++ rest) (i * n + v) 0 ≡ get_or front (i * n + v) 0
  at_front rest i v h g = get_or-append front rest 0 (i * n + v) (omega (arith, turn.starts, place_within h g))

  pub rows_front : (i v : ℕ) → i < R → v < n → P i v (get_or front (i * n + v) 0)
  rows_front i v h g = rw (at_front back i v h g) at (turn.so.below i v h g)

  pub part_fits : n ≤ length back
  part_fits = omega (arith, turn.places, turn.starts, row_within n turn.row, turn.so.kept.size, length-append front back)

  -- The row came.
  pub rows_more : (part : List ℕ) → length part ≡ n → ((v : ℕ) → v < n → P R v (get_or part v 0))
      → Rows P n rows (R + 1) before (front ++ (part ++ drop n back))
  rows_more part long here =
      let after = front ++ (part ++ drop n back) in
      let kept : Kept (R * n + n) (front ++ back) after = record {
        size = simp (length-append, length-drop) (omega (arith, long, part_fits));
        later = rw (← turn.starts) (drop-append-add front _ n ∙ drop_at part _ n long ∙ sym (drop-append-add front back n));
      } in
      record {
        below = λ i v h g. below_more (λ (i : ℕ). (v : ℕ) → v < n → P i v (get_or after (i * n + v) 0)) R
            (λ i h v g. rw (at_front (part ++ drop n back) i v h g) (rows_front i v h g))
            (λ v g. rw (← turn.starts, get_or-append-add front (part ++ drop n back) v 0, get_or-append part (drop n back) 0 v (omega arith)) (here v g))
            i h v g;
        kept = kept_then turn.so.kept (kept_later (row_within n turn.row) kept);
      }
