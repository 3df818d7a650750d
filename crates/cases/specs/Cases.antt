-- Cases: an input, what comes of it, and what the search leaves behind.
use Rattle.std.specs.Prelude.{ℕ, zero, suc, ◌+◌, ◌*◌, ◌^◌, ◌<◌, ◌≡◌, List, [], ◌∷◌, length, get_or}
use Rattle.rules.specs.Network.{node_count}
use Rattle.rules.specs.Request.{request_value, request_verdict, rider_count_of}
use Rattle.rules.specs.Routes.{RiderHolds}
use Rattle.rules.specs.Plans.{RightPlan, NoPlan}
use Rattle.rules.specs.Rooms.{HoldsFinish, distance_places, table_places}
use Rattle.rules.specs.declared.Request.{Request}
use Rattle.rules.specs.Checks.{Accepted}

-- a plan with its cost, or 24
pub data Result : Type 0 where
  plan : ℕ → List ℕ → Result
  none : Result

-- The records, the result, and the places of the distances and of the work table that the search fills.
pub record Case : Type 0 where
  pub network : List ℕ
  pub request : List ℕ
  pub result : Result
  pub distances : List ℕ
  pub table : List ℕ

-- the request as one value
abbrev pub asked : Case → Request
asked c = request_value c.request

abbrev pub row_distance : Case → ℕ → ℕ → ℕ
row_distance c j v = get_or c.distances (j * node_count c.network + v) 0

abbrev pub row_value : Case → ℕ → ℕ → ℕ
row_value c R v = get_or c.table (R * node_count c.network + v) 0

-- how many places the search fills
abbrev pub distance_need : Case → ℕ
distance_need c = distance_places (node_count c.network) (rider_count_of (asked c))

abbrev pub table_need : Case → ℕ
table_need c = table_places (node_count c.network) (rider_count_of (asked c))

-- what the rules say of a result
abbrev pub Right : List ℕ → Request → Result → Type 0
Right network q (plan cost steps) = RightPlan network q steps cost
Right network q none = NoPlan network q

-- The claim of a case: its records are sound, its result is right, and so is every place of its distances and its table.
pub record Holds (c : Case) : Type 0 where
  pub accepted : request_verdict c.network c.request ≡ Accepted
  pub distance_size : length c.distances ≡ distance_need c
  pub table_size : length c.table ≡ table_need c
  pub distances : (j v : ℕ) → j < rider_count_of (asked c) → v < node_count c.network
      → RiderHolds c.network (asked c) j v (row_distance c j v)
  pub table : (R v : ℕ) → R < 2 ^ rider_count_of (asked c) → v < node_count c.network
      → HoldsFinish c.network (asked c) R v (row_value c R v)
  pub result : Right c.network (asked c) c.result

-- a claim of the case at place i of a table, if there is one
abbrev pub AtRow : (Case → Type 0) → List Case → ℕ → Type 0
AtRow P [] i = Unit
AtRow P (c ∷ cs) zero = P c
AtRow P (c ∷ cs) (suc i) = AtRow P cs i
