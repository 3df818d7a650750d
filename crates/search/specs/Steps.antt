-- The bus's steps while the plan is read off the tables.
use Rattle.std.specs.Prelude.{ℕ, ◌+◌, ◌*◌, ◌/◌, ◌%◌, ◌≤◌, ◌<◌, ◌≡◌, cond, ◌||◌, List, length, take, leb}
use Rattle.rules.specs.Checks.{differ}
use Rattle.rules.specs.Limits.{closed, step_range, packed_step}
use Rattle.rules.specs.Network.{node_count, link_count, from, to, drive}
use Rattle.rules.specs.Request.{rider_count_of, bus_weight_of}
use Rattle.rules.specs.Plans.{Has, without, all_riders, drive_step, RightPlan}
use Rattle.rules.specs.Rooms.{Kept, Written, no_finish, step_places}
use Rattle.rules.specs.declared.Request.{Request}
use Rattle.finish.specs.Sets.{Subset}
use Rattle.right.specs.Reading.{NextStep, Reading}
use Rattle.table.specs.Meetings.{meeting_at}
use Rattle.table.specs.declared.tables.Tables.{Tables}
use Rattle.search.specs.Known.{Known, best_in, value_in}
use Rattle.search.specs.declared.bus.Bus.{Bus}
use Rattle.search.specs.declared.bus.Move.{Move}

abbrev pub network_of : Bus → List ℕ
network_of bus = bus.tables.now.job.now.network

abbrev pub request_of : Bus → Request
request_of bus = bus.tables.now.job.now.request

-- what the table holds where the bus stands
abbrev pub here : Bus → ℕ
here bus = value_in bus.tables.now bus.riders bus.node

-- what it takes to drive link k from v, or none where that is no drive
unfoldable pub driving_step : List ℕ → ℕ → ℕ → ℕ → ℕ
driving_step network weight v k =
    cond (differ (from network k) v || leb closed (drive network k)) no_finish (packed_step (weight * drive network k))

-- what it takes to meet rider j, and then to finish
abbrev pub meeting_value : Bus → ℕ → ℕ
meeting_value bus j = meeting_at bus.tables.now j bus.node + value_in bus.tables.now (without bus.riders j) bus.node

-- what it takes to drive link k, and then to finish
abbrev pub drive_value : Bus → ℕ → ℕ
drive_value bus k =
    driving_step (network_of bus) (bus_weight_of (request_of bus)) bus.node k + value_in bus.tables.now bus.riders (to (network_of bus) k)

-- What it takes to meet rider j, or to drive link k, and then to finish, is what the table holds.
abbrev pub Meets : Bus → ℕ → Type 0
Meets bus j = Has bus.riders j × (here bus ≡ meeting_value bus j)

abbrev pub Drives : Bus → ℕ → Type 0
Drives bus k = (k < link_count (network_of bus)) × (here bus ≡ drive_value bus k)

-- Of the riders still to be met, those of `left` are not tried yet, and no other is met so.
pub record Trying (bus : Bus) (left : ℕ) : Type 0 where
  pub of : Subset left bus.riders
  pub tried : (j : ℕ) → (Has left j → ⊥) → Meets bus j → ⊥

-- The step meets the lowest such rider, and the bus stays where it is.
pub record LowestMeeting (bus : Bus) (move : Move) : Type 0 where
  pub meets : Meets bus move.step
  pub lowest : (j : ℕ) → j < move.step → Meets bus j → ⊥
  pub leaves : move.bus.riders ≡ without bus.riders move.step
  pub stays : move.bus.node ≡ bus.node
  pub same : move.bus.tables.now ≡ bus.tables.now

-- The step drives the lowest such link, with all riders still to be met.
pub record LowestDrive (bus : Bus) (move : Move) : Type 0 where
  pub link : ℕ
  pub is : move.step ≡ drive_step link
  pub drives : Drives bus link
  pub lowest : (k : ℕ) → k < link → Drives bus k → ⊥
  pub stay : move.bus.riders ≡ bus.riders
  pub ends : move.bus.node ≡ to (network_of bus) link
  pub same : move.bus.tables.now ≡ bus.tables.now

-- The lowest tight step, and the bus behind it.
pub record Next (bus : Bus) (move : Move) : Type 0 where
  pub lowest : NextStep (network_of bus) (request_of bus) (value_in bus.tables.now) bus.riders bus.node move.step move.bus.riders move.bus.node
  pub same : move.bus.tables.now ≡ bus.tables.now

-- The bus stands at the source, with every rider to be met.
pub record AtSource (tables : Tables) (bus : Bus) : Type 0 where
  pub all : bus.riders ≡ all_riders tables.job.now.request
  pub source : bus.node ≡ tables.job.now.request.source
  pub same : bus.tables.now ≡ tables

-- The plan may be written: the tables are known, the bus stands at the source, and there is room for the steps.
pub record Planning (bus : Bus) (steps : List ℕ) : Type 0 where
  pub known : Known bus.tables.now
  pub from : AtSource bus.tables.now bus
  pub room : step_places (node_count (network_of bus)) (rider_count_of (request_of bus)) ≤ length steps

-- So many steps are written at the start of the room.
pub record Writing (tables : Tables) (before : List ℕ) (bus : Bus) (i : ℕ) (after : List ℕ) : Type 0 where
  pub short : i ≤ length after
  pub reading : Reading tables.job.now.network tables.job.now.request (value_in tables) (take i after) bus.riders bus.node
  pub kept : Kept i before after
  pub same : bus.tables.now ≡ tables

-- The right plan stands at the start of the room; its cost and its number of steps are what the table packs.
pub record PlanWritten (tables : Tables) (before after : List ℕ) : Type 0 where
  pub plan : List ℕ
  pub right : RightPlan tables.job.now.network tables.job.now.request plan (best_in tables / step_range)
  pub count : best_in tables % step_range ≡ length plan
  pub written : Written plan before after
