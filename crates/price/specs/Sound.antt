-- A route that may be priced.
use Rattle.std.specs.Prelude.{ℕ, ◌≤◌, List, length, get_or}
use Rattle.rules.specs.Limits.{longest_route}
use Rattle.rules.specs.Network.{SoundNetwork, node_count, drive}
use Rattle.rules.specs.Request.{SoundValue}
use Rattle.rules.specs.Routes.{Route, sum}
use Rattle.rules.specs.declared.Request.{Request}

-- the drive costs of the route's links, added up
abbrev pub driving_of : List ℕ → List ℕ → ℕ
driving_of network route = sum (length route) (λ i. drive network (get_or route i 0))

-- Sound records, and what a route is that none of its checks refuses.
pub record SoundRoute (network : List ℕ) (q : Request) (route : List ℕ) : Type 0 where
  pub sound : SoundNetwork network
  pub value : SoundValue (node_count network) q
  pub few : length route ≤ longest_route
  pub drives : Route network q route (driving_of network route)
