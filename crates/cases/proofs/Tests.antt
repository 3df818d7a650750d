-- Tests that compute, and what each of them says.
use Prim.Native.Nat.{ℕ, zero, suc, ◌≤◌, ◌<◌}
use mathlib.Core.Path.{◌≡◌}
use mathlib.Core.Logic.{◌⊎◌}
use mathlib.Core.Bool.{Bool, true, false, not, ◌&&◌, ◌||◌}
use lib.Dec.{leb, ltb, eqb}

pub data Test : Type 0 where
  at_most : ℕ → ℕ → Test
  below : ℕ → ℕ → Test
  equal : ℕ → ℕ → Test
  both : Test → Test → Test
  either : Test → Test → Test
  implies : Test → Test → Test
  for_each : ℕ → (ℕ → Test) → Test
  for_some : ℕ → (ℕ → Test) → Test

abbrev pub Says : Test → Type 0
Says (at_most a b) = a ≤ b
Says (below a b) = a < b
Says (equal a b) = a ≡ b
Says (both s t) = Says s × Says t
Says (either s t) = Says s ⊎ Says t
Says (implies s t) = Says s → Says t
Says (for_each n f) = (k : ℕ) → k < n → Says (f k)
Says (for_some n f) = (k : ℕ) × (k < n) × Says (f k)

unfoldable pub all_below : ℕ → (ℕ → Bool) → Bool
all_below zero f = true
all_below (suc n) f = f n && all_below n f

unfoldable pub any_below : ℕ → (ℕ → Bool) → Bool
any_below zero f = false
any_below (suc n) f = f n || any_below n f

unfoldable pub passes : Test → Bool
passes (at_most a b) = leb a b
passes (below a b) = ltb a b
passes (equal a b) = eqb a b
passes (both s t) = passes s && passes t
passes (either s t) = passes s || passes t
passes (implies s t) = not (passes s) || passes t
passes (for_each n f) = all_below n (λ k. passes (f k))
passes (for_some n f) = any_below n (λ k. passes (f k))
