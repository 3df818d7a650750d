-- The nearest position of a route.
use Rattle.std.specs.Prelude.{ℕ, ◌+◌, ◌≤◌, ◌<◌, ◌≡◌, cond, List, length, ltb}
use Rattle.rules.specs.Routes.{node_at, RiderHolds}
use Rattle.rules.specs.declared.Request.{Request}
use Rattle.price.specs.declared.riders.Spot.{Spot}

-- The earliest of the first `count` positions with the least value.
pub record Sofar (value : ℕ → ℕ) (count : ℕ) (spot : Spot) : Type 0 where
  pub within : spot.position < count
  pub stands : spot.distance ≡ value spot.position
  pub least : (other : ℕ) → other < count → spot.distance ≤ value other
  pub earliest : (other : ℕ) → other < spot.position → spot.distance < value other

-- Of the route's positions the earliest whose place, which holds rider j's way to its node, is least (2.7).
pub record Nearest (network : List ℕ) (q : Request) (j : ℕ) (route : List ℕ) (spot : Spot) : Type 0 where
  pub place : ℕ → ℕ
  pub holds : (position : ℕ) → RiderHolds network q j (node_at network q.source route position) (place position)
  pub first : Sofar place (length route + 1) spot

-- the position that is given where it is nearer than the spot, else the spot
abbrev pub closer_of : Spot → ℕ → ℕ → Spot
closer_of spot position distance = cond (ltb distance spot.distance) (record { position = position; distance = distance }) spot
