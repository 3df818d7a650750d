-- A list of numbers, one for each j below a count.
use Prim.Native.Nat.{ℕ, zero, suc, ◌<◌}
use mathlib.Core.Path.{◌≡◌, refl, ap}
use mathlib.Core.List.{List, [], ◌∷◌}
use native.Mathlib.Omega.{arith}
use lib.ListN.{length, get_or}

-- What holds of some number for each j below the count holds of the numbers of a list.
module _ (M : ℕ → ℕ → Type 0) where
  one_more : {count x : ℕ} (xs : List ℕ) → M 0 x → ((j : ℕ) → j < count → M (suc j) (get_or xs j 0)) → (j : ℕ) → j < suc count
      → M j (get_or (x ∷ xs) j 0)
  one_more xs here later zero h = here
  one_more xs here later (suc j) h = later j (omega arith)

pub collect : (count : ℕ) (M : ℕ → ℕ → Type 0) → ((j : ℕ) → j < count → (x : ℕ) × M j x)
    → (xs : List ℕ) × (length xs ≡ count) × ((j : ℕ) → j < count → M j (get_or xs j 0))
collect zero M each = ([], refl, λ j h. absurd (omega arith))
collect (suc count) M each =
    let (xs, size, hold) = collect count (λ j. M (suc j)) (λ j h. each (suc j) (omega arith)) in
    let (x, here) = each 0 (omega arith) in
    (x ∷ xs, ap suc size, one_more M xs here hold)
