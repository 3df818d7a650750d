-- Plans as lists of steps, their cost, and the right plan.
use Rattle.std.specs.Prelude.{ℕ, ◌+◌, ◌-◌, ◌*◌, ◌/◌, ◌%◌, ◌^◌, ◌<◌, ◌≤◌, ◌≡◌, ◌⊎◌, List, [], ◌∷◌, length}
use Rattle.rules.specs.Limits.{first_drive}
use Rattle.rules.specs.Request.{bus_weight_of, rider_count_of, rider_weight_of}
use Rattle.rules.specs.Routes.{Drivable, RiderWalks}
use Rattle.rules.specs.declared.Request.{Request}

-- Sets of riders, numbered by their bits: rider j's is 2^j (3.1).
abbrev pub Has : ℕ → ℕ → Type 0
Has R j = (R / 2 ^ j) % 2 ≡ 1

abbrev pub without : ℕ → ℕ → ℕ
without R j = R - 2 ^ j

abbrev pub all_riders : Request → ℕ
all_riders q = 2 ^ rider_count_of q - 1

-- Step j meets rider j, and this step drives link k (2.8).
abbrev pub drive_step : ℕ → ℕ
drive_step k = first_drive + k

-- A finish from v: steps that drive on to the target and meet each rider of R once and no other, where the rider can walk to; and
-- what these cost, driven and walked (2.9).
pub data Finish (network : List ℕ) (q : Request) : ℕ → ℕ → List ℕ → ℕ → Type 0 where
  arrive :
      {R v c : ℕ}
      → R ≡ 0
      → v ≡ q.target
      → c ≡ 0
      → Finish network q R v [] c
  meet :
      {R v j c : ℕ} {steps : List ℕ} (d rest : ℕ)
      → Has R j
      → RiderWalks network q j v d
      → Finish network q (without R j) v steps rest
      → c ≡ rider_weight_of q j * d + rest
      → Finish network q R v (j ∷ steps) c
  drive :
      {R v step c : ℕ} {steps : List ℕ} (k x w rest : ℕ)
      → step ≡ drive_step k
      → Drivable network k v x w
      → Finish network q R x steps rest
      → c ≡ bus_weight_of q * w + rest
      → Finish network q R v (step ∷ steps) c

-- A finish that starts at the source and meets everybody is a plan.
abbrev pub Plan : List ℕ → Request → List ℕ → ℕ → Type 0
Plan network q steps cost = Finish network q (all_riders q) q.source steps cost

-- dictionary order
unfoldable pub NoLater : List ℕ → List ℕ → Type 0
NoLater [] ys = Unit
NoLater (x ∷ xs) [] = ⊥
NoLater (x ∷ xs) (y ∷ ys) = (x < y) ⊎ ((x ≡ y) × NoLater xs ys)

-- A finish that none undercuts: not in cost, and not in steps at the same cost.
pub record Best (network : List ℕ) (q : Request) (R v : ℕ) (steps : List ℕ) (cost : ℕ) : Type 0 where
  pub finishes : Finish network q R v steps cost
  pub cheapest : (other : List ℕ) (c : ℕ) → Finish network q R v other c → cost ≤ c
  pub fewest : (other : List ℕ) → Finish network q R v other cost → length steps ≤ length other

-- The right plan is a best one, and of those as cheap and as short the first in the dictionary (2.10).
pub record RightPlan (network : List ℕ) (q : Request) (steps : List ℕ) (cost : ℕ) : Type 0 where
  pub best : Best network q (all_riders q) q.source steps cost
  pub first : (other : List ℕ) → Plan network q other cost → length other ≡ length steps → NoLater steps other

abbrev pub NoFinish : List ℕ → Request → ℕ → ℕ → Type 0
NoFinish network q R v = (steps : List ℕ) (cost : ℕ) → Finish network q R v steps cost → ⊥

abbrev pub NoPlan : List ℕ → Request → Type 0
NoPlan network q = NoFinish network q (all_riders q) q.source
