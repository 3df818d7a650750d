-- What is known of the two tables when they are filled.
use Rattle.std.specs.Prelude.{ℕ, ◌^◌, ◌≤◌, ◌<◌, length}
use Rattle.rules.specs.Network.{node_count}
use Rattle.rules.specs.Request.{rider_count_of}
use Rattle.rules.specs.Rooms.{table_places, no_finish}
use Rattle.right.specs.Reading.{plan_value}
use Rattle.table.specs.Filling.{WalkedBelow, FilledBelow}
use Rattle.table.specs.Places.{value_at}
use Rattle.table.specs.declared.tables.Tables.{Tables}

-- what the work table holds for a rider set and a node
abbrev pub value_in : Tables → ℕ → ℕ → ℕ
value_in tables = value_at tables.job.now.network tables.table.now

-- the value of the plans
abbrev pub best_in : Tables → ℕ
best_in tables = plan_value tables.job.now.request (value_in tables)

-- The walking distances of all riders, and the least finishes from everywhere.
pub record Known (tables : Tables) : Type 0 where
  pub walks : WalkedBelow tables.job.now.network tables.job.now.request (rider_count_of tables.job.now.request) tables.distances.now
  pub filled : FilledBelow tables.job.now.network tables.job.now.request (2 ^ rider_count_of tables.job.now.request) tables.table.now

-- The table has all its places.
abbrev pub Whole : Tables → Type 0
Whole tables = table_places (node_count tables.job.now.network) (rider_count_of tables.job.now.request) ≤ length tables.table.now

-- The bus stands at v with R still to be met, and there is a finish.
pub record Stands (tables : Tables) (R v : ℕ) : Type 0 where
  pub whole : Whole tables
  pub set : R < 2 ^ rider_count_of tables.job.now.request
  pub node : v < node_count tables.job.now.network
  pub finite : value_in tables R v < no_finish
