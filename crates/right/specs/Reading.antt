-- Reading the right plan off a table of best finishes.
use Rattle.std.specs.Prelude.{ℕ, ◌+◌, ◌*◌, ◌%◌, ◌^◌, ◌<◌, ◌≤◌, ◌≡◌, List, ◌++◌, length}
use Rattle.rules.specs.Limits.{step_range, pack, packed_step}
use Rattle.rules.specs.Network.{node_count}
use Rattle.rules.specs.Request.{rider_weight_of, rider_count_of, bus_weight_of}
use Rattle.rules.specs.Routes.{Drivable, RiderWalks}
use Rattle.rules.specs.Plans.{Has, without, all_riders, drive_step, Finish, NoLater}
use Rattle.rules.specs.Rooms.{no_finish}
use Rattle.rules.specs.declared.Request.{Request}
use Rattle.least.specs.Least.{Least}
use Rattle.finish.specs.Packed.{Packed}

-- A table whose places have the least packed values of the finishes from there.
abbrev pub Tabled : List ℕ → Request → (ℕ → ℕ → ℕ) → Type 0
Tabled network q T = (R v : ℕ) → R < 2 ^ rider_count_of q → v < node_count network → Least no_finish (Packed network q R v) (T R v)

-- With R still to be met, the step leads from v to x at the cost, and leaves S to be met.
pub data Step (network : List ℕ) (q : Request) (R v step S x cost : ℕ) : Type 0 where
  meets :
      (d : ℕ)
      → Has R step
      → RiderWalks network q step v d
      → S ≡ without R step
      → x ≡ v
      → cost ≡ rider_weight_of q step * d
      → Step network q R v step S x cost
  drives :
      (k w : ℕ)
      → step ≡ drive_step k
      → Drivable network k v x w
      → S ≡ R
      → cost ≡ bus_weight_of q * w
      → Step network q R v step S x cost

-- The step and the value where it leads make up the value here.
pub record Tight (network : List ℕ) (q : Request) (T : ℕ → ℕ → ℕ) (R v step S x : ℕ) : Type 0 where
  pub cost : ℕ
  pub leads : Step network q R v step S x cost
  pub tight : T R v ≡ packed_step cost + T S x

-- the lowest tight step
pub record NextStep (network : List ℕ) (q : Request) (T : ℕ → ℕ → ℕ) (R v step S x : ℕ) : Type 0 where
  pub tight : Tight network q T R v step S x
  pub lowest : (other Q y : ℕ) → Tight network q T R v other Q y → step ≤ other

-- A finish of the packed value t that comes first in the dictionary among those of this value.
pub record First (network : List ℕ) (q : Request) (R v t : ℕ) (steps : List ℕ) : Type 0 where
  pub cost : ℕ
  pub finishes : Finish network q R v steps cost
  pub packs : t ≡ pack cost (length steps)
  pub first : (other : List ℕ) (c : ℕ) → Finish network q R v other c → t ≡ pack c (length other) → NoLater steps other

-- the value of the plans
abbrev pub plan_value : Request → (ℕ → ℕ → ℕ) → ℕ
plan_value q T = T (all_riders q) q.source

-- How it stands when some steps are written, R is still to be met and the bus is at v: the steps, with any first
-- finish from v behind them, are a first finish from the source; and the value here tells how many steps are to come.
pub record Reading (network : List ℕ) (q : Request) (T : ℕ → ℕ → ℕ) (written : List ℕ) (R v : ℕ) : Type 0 where
  pub set : R < 2 ^ rider_count_of q
  pub node : v < node_count network
  pub finite : T R v < no_finish
  pub continues : (steps : List ℕ) → First network q R v (T R v) steps
      → First network q (all_riders q) q.source (plan_value q T) (written ++ steps)
  pub left : length written + T R v % step_range ≡ plan_value q T % step_range
