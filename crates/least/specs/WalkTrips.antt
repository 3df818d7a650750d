-- Walks as trips.
use Rattle.std.specs.Prelude.{ℕ, ◌-◌, ◌*◌, List}
use Rattle.rules.specs.Limits.{most_nodes, closed}
use Rattle.rules.specs.Walks.{Walkable}
use Rattle.least.specs.Trips.{Arcs, Inits, Trip, At}

-- Some link is the arc.
abbrev pub Linked : (ℕ → Arcs) → Arcs
Linked Link u v w = (k : ℕ) × Link k u v w

-- the arcs of walks
abbrev pub WalkArcs : List ℕ → Arcs
WalkArcs network = Linked (Walkable network)

-- A walk from the start to v, as a trip from v back to the start: walks can be gone either way.
abbrev pub WalkTrip : List ℕ → ℕ → Inits
WalkTrip network start = Trip (WalkArcs network) (At start)

-- No walking distance is longer: fewer links than nodes, each at its most.
abbrev pub longest_walk : ℕ
longest_walk = (most_nodes - 1) * (closed - 1)
