-- What walking leaves in the room that it is lent.
use Rattle.std.specs.Prelude.{ℕ, ◌<◌, List, get_or}
use Rattle.rules.specs.Network.{node_count}
use Rattle.rules.specs.Walks.{HoldsDistance}
use Rattle.rules.specs.Rooms.{Kept}

-- Each node's place holds its walking distance from the start; later places are kept.
pub record Row (network : List ℕ) (start : ℕ) (before after : List ℕ) : Type 0 where
  pub holds : (v : ℕ) → v < node_count network → HoldsDistance network start v (get_or after v 0)
  pub kept : Kept (node_count network) before after
