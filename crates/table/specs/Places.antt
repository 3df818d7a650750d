-- Places of a room of rows.
use Rattle.std.specs.Prelude.{ℕ, ◌+◌, ◌*◌, List, get_or}
use Rattle.rules.specs.Network.{node_count}

-- what a room of rows of n places holds at the place of v in a row
abbrev pub value_at : List ℕ → List ℕ → ℕ → ℕ → ℕ
value_at network room row v = get_or room (row * node_count network + v) 0
