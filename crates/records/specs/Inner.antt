-- What the inner functions promise: the number meant, and a bound on it.
use Rattle.std.specs.Prelude.{ℕ, ◌<◌, ◌≡◌}

pub record Is (number bound r : ℕ) : Type 0 where
  pub value : r ≡ number
  pub below : r < bound
