-- The least of a set of numbers, where the cap stands for none.
use Rattle.std.specs.Prelude.{ℕ, ◌+◌, ◌≤◌, ◌<◌}
use Rattle.least.specs.Trips.{Arcs, Inits, Trip}

-- t is the least number with P, or the cap if none below it has P.
pub record Least (cap : ℕ) (P : ℕ → Type 0) (t : ℕ) : Type 0 where
  pub capped : t ≤ cap
  pub lowest : (d : ℕ) → P d → t ≤ d
  pub met : t < cap → P t

-- t is a tentative sum of u: neither above the cap nor above a start, and below the cap the sum of a trip.
pub record Tentative (cap : ℕ) (Arc : Arcs) (Init : Inits) (u t : ℕ) : Type 0 where
  pub capped : t ≤ cap
  pub started : (c : ℕ) → Init u c → t ≤ c
  pub met : t < cap → Trip Arc Init u t

-- No arc between nodes below n makes a sum smaller.
abbrev pub Relaxed : ℕ → Arcs → (ℕ → ℕ) → Type 0
Relaxed n Arc T = (u v w : ℕ) → u < n → v < n → Arc u v w → T u ≤ w + T v
