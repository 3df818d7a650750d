-- Sets of riders, numbered by their bits.
use Rattle.std.specs.Prelude.{ℕ, ◌≤◌, ◌<◌}
use Rattle.rules.specs.Plans.{Has}

-- Every rider of one set is one of the other.
pub record Subset (left R : ℕ) : Type 0 where
  pub within : left ≤ R
  pub of : (j : ℕ) → Has left j → Has R j

-- j is the lowest rider of R.
pub record LowestRider (R j : ℕ) : Type 0 where
  pub has : Has R j
  pub first : (i : ℕ) → i < j → Has R i → ⊥
