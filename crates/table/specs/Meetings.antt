-- Meetings at a node, one rider of a set after the other.
use Rattle.std.specs.Prelude.{ℕ, ◌*◌, ◌^◌, ◌≤◌, ◌<◌, ◌≡◌, cond, length, eqb}
use Rattle.rules.specs.Limits.{packed_step}
use Rattle.rules.specs.Network.{node_count}
use Rattle.rules.specs.Request.{rider_count_of, rider_weight_of}
use Rattle.rules.specs.Walks.{no_distance}
use Rattle.rules.specs.Plans.{without}
use Rattle.rules.specs.Rooms.{no_finish}
use Rattle.finish.specs.Sets.{Subset, LowestRider}
use Rattle.table.specs.Places.{value_at}
use Rattle.table.specs.declared.meetings.FirstMeeting.{FirstMeeting}
use Rattle.table.specs.declared.tables.Tables.{Tables}

-- What it takes to meet a rider of that weight who walks so far, or none where the rider cannot walk there.
unfoldable pub meeting_step : ℕ → ℕ → ℕ
meeting_step weight distance = cond (eqb distance no_distance) no_finish (packed_step (weight * distance))

-- what it takes to meet rider j at v
abbrev pub meeting_at : Tables → ℕ → ℕ → ℕ
meeting_at tables j v = meeting_step (rider_weight_of tables.job.now.request j) (value_at tables.job.now.network tables.distances.now j v)

-- With R still to be met and the bus at v, some riders of R are left to be tried. The rows of the sets below R are there.
pub record Tries (tables : Tables) (R left v : ℕ) : Type 0 where
  pub rows : R * node_count tables.job.now.network ≤ length tables.table.now
  pub set : R < 2 ^ rider_count_of tables.job.now.request
  pub node : v < node_count tables.job.now.network
  pub of : Subset left R
  pub some : 0 < left

-- Of those left, the lowest rider: whom that leaves to be tried and to be met, what the step takes, and the value behind it.
pub record TriesLowest (tables : Tables) (R left v : ℕ) (next : FirstMeeting) : Type 0 where
  pub lowest : LowestRider left next.rider
  pub below : next.rider < rider_count_of tables.job.now.request
  pub leaves : next.left ≡ without left next.rider
  pub still : next.riders ≡ without R next.rider
  pub step : next.step ≡ meeting_at tables next.rider v
  pub rest : next.rest ≡ value_at tables.job.now.network tables.table.now (without R next.rider) v
