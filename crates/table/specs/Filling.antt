-- What is known while the two tables are filled.
use Rattle.std.specs.Prelude.{ℕ, ◌+◌, ◌*◌, ◌^◌, ◌≤◌, ◌<◌, List, length, get_or}
use Rattle.rules.specs.Network.{node_count}
use Rattle.rules.specs.Request.{rider_count_of}
use Rattle.rules.specs.Routes.{RiderHolds}
use Rattle.rules.specs.Rooms.{Kept, distance_places, no_finish}
use Rattle.rules.specs.declared.Request.{Request}
use Rattle.least.specs.Least.{Least}
use Rattle.finish.specs.Sets.{Subset}
use Rattle.finish.specs.Rows.{MetSeen, Outside}
use Rattle.finish.specs.Packed.{Packed}
use Rattle.table.specs.Places.{value_at}
use Rattle.table.specs.declared.tables.Tables.{Tables}

-- At each place of the rows below R stands what P says; what lies beyond all rows is kept.
pub record Rows (P : ℕ → ℕ → ℕ → Type 0) (n rows R : ℕ) (before after : List ℕ) : Type 0 where
  pub below : (i v : ℕ) → i < R → v < n → P i v (get_or after (i * n + v) 0)
  pub kept : Kept (rows * n) before after

-- The rows of the riders below j hold their walking distances.
abbrev pub WalkedBelow : List ℕ → Request → ℕ → List ℕ → Type 0
WalkedBelow network q j distances = (i v : ℕ) → i < j → v < node_count network → RiderHolds network q i v (value_at network distances i v)

abbrev pub WalkedRows : List ℕ → Request → ℕ → List ℕ → List ℕ → Type 0
WalkedRows network q = Rows (RiderHolds network q) (node_count network) (rider_count_of q)

-- The riders' walking distances, in a room for them.
pub record KnownDistances (network : List ℕ) (q : Request) (distances : List ℕ) : Type 0 where
  pub places : distance_places (node_count network) (rider_count_of q) ≤ length distances
  pub walks : WalkedBelow network q (rider_count_of q) distances

-- The rows below R hold the least packed finishes.
abbrev pub FilledBelow : List ℕ → Request → ℕ → List ℕ → Type 0
FilledBelow network q R table = (S v : ℕ) → S < R → v < node_count network → Least no_finish (Packed network q S v) (value_at network table S v)

abbrev pub Filled : List ℕ → Request → ℕ → List ℕ → List ℕ → Type 0
Filled network q = Rows (λ S v. Least no_finish (Packed network q S v)) (node_count network) (2 ^ rider_count_of q)

-- What row R is filled from: the walking distances and the rows below it.
pub record RowReady (tables : Tables) (R : ℕ) : Type 0 where
  pub walks : WalkedBelow tables.job.now.network tables.job.now.request (rider_count_of tables.job.now.request) tables.distances.now
  pub set : R < 2 ^ rider_count_of tables.job.now.request
  pub rows : R * node_count tables.job.now.network ≤ length tables.table.now
  pub below : FilledBelow tables.job.now.network tables.job.now.request R tables.table.now

-- Row R holds the least packed finishes.
abbrev pub RowFilled : Tables → ℕ → List ℕ → Type 0
RowFilled tables R row = (v : ℕ) → v < node_count tables.job.now.network → Least no_finish (Packed tables.job.now.network tables.job.now.request R v) (get_or row v 0)

-- Of the riders of R, those of `left` are not seen yet; `value` is the least that it takes at v to meet one of the others, and then
-- to finish.
pub record Seeing (network : List ℕ) (q : Request) (R v left value : ℕ) : Type 0 where
  pub of : Subset left R
  pub least : Least no_finish (MetSeen network q R (Outside left) v) value
