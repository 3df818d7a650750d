-- What every network engine promises, whatever its order of work.
use Rattle.std.specs.Prelude.{ℕ, ◌<◌, List, get_or}
use Rattle.rules.specs.Rooms.{Kept}
use Rattle.least.specs.Trips.{Arcs, Trip, Starts}
use Rattle.least.specs.Least.{Least}

-- Each place below n ends with the least sum of the trips from there to the values before; later places keep theirs.
pub record Spread (cap n : ℕ) (Arc : Arcs) (before after : List ℕ) : Type 0 where
  pub least : (u : ℕ) → u < n → Least cap (Trip Arc (Starts before) u) (get_or after u 0)
  pub kept : Kept n before after
