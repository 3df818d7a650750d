-- Finishes of few steps.
use Rattle.std.specs.Prelude.{ℕ, ◌+◌, ◌-◌, ◌*◌, ◌≤◌, ◌<◌, List, length}
use Rattle.std.specs.Int.Count.{ones}
use Rattle.rules.specs.Limits.{most_nodes, closed, most_riders, most_weight, step_range}
use Rattle.rules.specs.Network.{node_count}
use Rattle.rules.specs.Plans.{Finish}
use Rattle.rules.specs.Rooms.{step_places}
use Rattle.rules.specs.declared.Request.{Request}
use Rattle.least.specs.WalkTrips.{longest_walk}

-- A finish whose cost and number of steps are at most those given: it meets each rider of R once, and drives fewer links than there
-- are nodes before, between and after that.
pub record ShortFinish (network : List ℕ) (q : Request) (R v most count : ℕ) : Type 0 where
  pub steps : List ℕ
  pub cost : ℕ
  pub finishes : Finish network q R v steps cost
  pub cheap : cost ≤ most
  pub fewer : length steps ≤ count
  pub short : length steps ≤ step_places (node_count network) (ones R)

-- What the longest walk costs each rider, and as many links as nodes between two meetings the bus, all at their most (2.11).
abbrev pub most_cost : ℕ
most_cost = (most_riders + 1) * ((most_nodes - 1) * (most_weight * (closed - 1))) + most_riders * (most_weight * longest_walk)

-- The steps and the cost of a finish that meets l riders, within the bounds of a network of n nodes.
pub record Bounded (n l : ℕ) (steps : List ℕ) (cost : ℕ) : Type 0 where
  pub short : length steps ≤ step_places n l
  pub few : length steps < step_range
  pub cheap : cost ≤ most_cost
