-- Cost and steps of a finish, packed into one number, and packed sums as least sums over arcs.
use Rattle.std.specs.Prelude.{ℕ, ◌+◌, ◌*◌, ◌/◌, ◌%◌, ◌<◌, ◌≡◌, ◌⊎◌, List, length}
use Rattle.rules.specs.Limits.{step_range, pack, packed_step}
use Rattle.rules.specs.Plans.{Finish, Has, without}
use Rattle.rules.specs.Request.{rider_weight_of}
use Rattle.rules.specs.Routes.{Drivable, RiderWalks}
use Rattle.rules.specs.Rooms.{no_finish}
use Rattle.rules.specs.declared.Request.{Request}
use Rattle.least.specs.Trips.{Arcs, Inits}
use Rattle.least.specs.WalkTrips.{Linked}

-- x packs the cost and the number of steps of a finish from v that meets exactly R.
pub record Packed (network : List ℕ) (q : Request) (R v x : ℕ) : Type 0 where
  pub steps : List ℕ
  pub cost : ℕ
  pub finishes : Finish network q R v steps cost
  pub packs : x ≡ pack cost (length steps)

-- To drive link k from v to x takes w, for a bus of that weight.
pub record DriveLink (network : List ℕ) (weight k v x w : ℕ) : Type 0 where
  pub cost : ℕ
  pub leads : Drivable network k v x cost
  pub packs : w ≡ packed_step (weight * cost)

abbrev pub DriveArc : List ℕ → ℕ → Arcs
DriveArc network weight = Linked (DriveLink network weight)

-- To meet rider j of R at v, and then to finish from there, takes x.
pub record Met (network : List ℕ) (q : Request) (R v j x : ℕ) : Type 0 where
  pub distance : ℕ
  pub rest : ℕ
  pub has : Has R j
  pub walks : RiderWalks network q j v distance
  pub finishes : Packed network q (without R j) v rest
  pub packs : x ≡ packed_step (rider_weight_of q j * distance) + rest

-- The finishes from v that don't start by driving: there is nothing left to do, or a rider is met.
abbrev pub Ends : List ℕ → Request → ℕ → Inits
Ends network q R v x = ((R ≡ 0) × (v ≡ q.target) × (x ≡ 0)) ⊎ ((j : ℕ) × Met network q R v j x)

-- A place below the cap gives cost and number of steps back.
pub record Unpacks (place : ℕ) (steps : List ℕ) (cost : ℕ) : Type 0 where
  pub below : place < no_finish
  pub quotient : place / step_range ≡ cost
  pub remainder : place % step_range ≡ length steps
