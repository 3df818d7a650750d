-- What a list of steps says: the links it drives, and where it meets each rider.
use Rattle.std.specs.Prelude.{ℕ, zero, suc, ◌+◌, ◌-◌, ◌*◌, ◌^◌, ◌<◌, ◌≤◌, ◌≡◌, cond, List, [], ◌∷◌, length, ltb, eqb}
use Rattle.rules.specs.Limits.{first_drive}
use Rattle.rules.specs.Request.{rider_weight_of, rider_count_of, bus_weight_of}
use Rattle.rules.specs.Routes.{Route, Reaches, RiderWalks, node_at, sum}
use Rattle.rules.specs.Plans.{Finish}
use Rattle.rules.specs.declared.Request.{Request}

-- the links of the drive steps, in order
unfoldable pub drives_of : List ℕ → List ℕ
drives_of [] = []
drives_of (step ∷ steps) = cond (ltb step first_drive) (drives_of steps) ((step - first_drive) ∷ drives_of steps)

-- the position at which rider j is met: the number of drive steps before step j
unfoldable pub met_at : ℕ → List ℕ → ℕ
met_at j [] = 0
met_at j (step ∷ steps) = cond (eqb step j) 0 (cond (ltb step first_drive) (met_at j steps) (suc (met_at j steps)))

-- how often rider j is met
unfoldable pub times_met : ℕ → List ℕ → ℕ
times_met j [] = 0
times_met j (step ∷ steps) = cond (eqb step j) (suc (times_met j steps)) (times_met j steps)

-- the positions at which `count` riders, from rider j on, are met
unfoldable pub positions_from : ℕ → ℕ → List ℕ → List ℕ
positions_from zero j steps = []
positions_from (suc count) j steps = met_at j steps ∷ positions_from count (suc j) steps

abbrev pub positions_of : Request → List ℕ → List ℕ
positions_of q = positions_from (rider_count_of q) 0

-- A route with a position for each rider, and what driving it and walking to these positions cost together. At the meeting positions
-- this is the price (2.6).
pub record SumAt (network : List ℕ) (q : Request) (route : List ℕ) (position : ℕ → ℕ) (cost : ℕ) : Type 0 where
  pub driving : ℕ
  pub walking : ℕ → ℕ
  pub drives : Route network q route driving
  pub within : (j : ℕ) → j < rider_count_of q → position j ≤ length route
  pub walks : (j : ℕ) → j < rider_count_of q → RiderWalks network q j (node_at network q.source route (position j)) (walking j)
  pub adds : cost ≡ bus_weight_of q * driving + sum (rider_count_of q) (λ j. rider_weight_of q j * walking j)

-- Steps that drive the route, meet exactly the riders below `count`, each at its position, and come to the cost. With all riders this
-- is a plan.
pub record Along (network : List ℕ) (q : Request) (count : ℕ) (route : List ℕ) (position : ℕ → ℕ) (cost : ℕ) : Type 0 where
  pub steps : List ℕ
  pub finishes : Finish network q (2 ^ count - 1) q.source steps cost
  pub drives : drives_of steps ≡ route
  pub meets : (j : ℕ) → j < count → met_at j steps ≡ position j

-- No route is reached by every rider (4.4).
abbrev pub NoDrive : List ℕ → Request → Type 0
NoDrive network q =
    (route : List ℕ) (driving : ℕ)
    → Route network q route driving
    → ((j : ℕ) → j < rider_count_of q → Reaches network q route j)
    → ⊥
