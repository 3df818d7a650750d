-- Rooms: what was kept and what was written, and what the search leaves behind.
use Rattle.std.specs.Prelude.{ℕ, ◌+◌, ◌-◌, ◌*◌, ◌^◌, ◌<◌, ◌≤◌, ◌≡◌, ◌⊎◌, List, ◌++◌, length, get_or, take, drop}
use Rattle.rules.specs.Limits.{pack}
use Rattle.rules.specs.Network.{node_count}
use Rattle.rules.specs.Request.{rider_count_of}
use Rattle.rules.specs.Routes.{RiderHolds}
use Rattle.rules.specs.Plans.{Best, NoFinish}
use Rattle.rules.specs.declared.Request.{Request}

-- A room of which at most the first places were filled: it is as long as before, and so are its later places (3.5).
pub record Kept (filled : ℕ) (before after : List ℕ) : Type 0 where
  pub size : length after ≡ length before
  pub later : drop filled after ≡ drop filled before

-- values written at the start of a room
abbrev pub Written : List ℕ → List ℕ → List ℕ → Type 0
Written values before after = after ≡ values ++ drop (length values) before

-- The first i places hold their values, and the later ones what they held before.
pub record WrittenTo (values : ℕ → ℕ) (i : ℕ) (before after : List ℕ) : Type 0 where
  pub within : i ≤ length before
  pub kept : Kept i before after
  pub holds : (j : ℕ) → j < i → get_or after j 0 ≡ values j

-- Values were written from a place on, up to their end. All else is as it was.
pub record Put (at : ℕ) (values before after : List ℕ) (end : ℕ) : Type 0 where
  pub size : length after ≡ length before
  pub ends : end ≡ at + length values
  pub within : end ≤ length before
  pub says : take end after ≡ take at before ++ values
  pub later : drop end after ≡ drop end before

-- how many places n nodes and l riders need of each room (4.4)
abbrev pub distance_places : ℕ → ℕ → ℕ
distance_places n l = l * n

abbrev pub table_places : ℕ → ℕ → ℕ
table_places n l = 2 ^ l * n

abbrev pub step_places : ℕ → ℕ → ℕ
step_places n l = l + (l + 1) * (n - 1)

-- The distances have a row for each rider (3.2).
pub record Distances (network : List ℕ) (q : Request) (before after : List ℕ) : Type 0 where
  pub holds : (j v : ℕ) → j < rider_count_of q → v < node_count network → RiderHolds network q j v (get_or after (j * node_count network + v) 0)
  pub kept : Kept (distance_places (node_count network) (rider_count_of q)) before after

-- the mark of no finish in a 64-bit place (3.3)
abbrev pub no_finish : ℕ
no_finish = 2 ^ 64 - 1

-- The work table has a row for each rider set: a place holds the cost and the number of steps of a best finish, or the mark (3.3).
pub record HasFinish (network : List ℕ) (q : Request) (R v place : ℕ) : Type 0 where
  pub steps : List ℕ
  pub cost : ℕ
  pub best : Best network q R v steps cost
  pub packs : place ≡ pack cost (length steps)

abbrev pub HoldsFinish : List ℕ → Request → ℕ → ℕ → ℕ → Type 0
HoldsFinish network q R v place = HasFinish network q R v place ⊎ (NoFinish network q R v × (place ≡ no_finish))

pub record Table (network : List ℕ) (q : Request) (before after : List ℕ) : Type 0 where
  pub holds : (R v : ℕ) → R < 2 ^ rider_count_of q → v < node_count network
      → HoldsFinish network q R v (get_or after (R * node_count network + v) 0)
  pub kept : Kept (table_places (node_count network) (rider_count_of q)) before after

-- the three rooms that the search is lent
pub record Lent : Type 0 where
  pub distances : List ℕ
  pub table : List ℕ
  pub steps : List ℕ

abbrev pub lent : List ℕ → List ℕ → List ℕ → Lent
lent distances table steps = record { distances = distances; table = table; steps = steps }

-- Rooms with the places that n nodes and l riders need, or more.
pub record Enough (n l : ℕ) (rooms : Lent) : Type 0 where
  pub distances : distance_places n l ≤ length rooms.distances
  pub table : table_places n l ≤ length rooms.table
  pub steps : step_places n l ≤ length rooms.steps
