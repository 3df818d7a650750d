-- The networks and requests that source document 000 is about: each link has one back, bus and walkers pay the same for it, and riders
-- are of one weight. There the price is the paper's f, in whole numbers. And what walking one way only would be.
use Rattle.std.specs.Prelude.{ℕ, ◌+◌, ◌<◌, ◌≤◌, ◌≡◌, ◌⊎◌, List, [], ◌∷◌, map}
use Rattle.std.proofs.Math.Logic.{⊎_swap}
use Rattle.std.proofs.Common.{arith}
use Rattle.rules.specs.Network.{link_count, from, to, drive, walk}
use Rattle.rules.specs.Request.{rider_node_of, rider_weight_of, rider_count_of, bus_weight_of}
use Rattle.rules.specs.Walks.{Leads, Way, arrived, along, Walkable}
use Rattle.rules.specs.declared.Request.{Request}
use Rattle.rules.specs.Limits.{closed}
use Rattle.paper.specs.Fraction.{Fraction, times, IsWhole}
use Rattle.paper.specs.Problem.{Graph, Query}
use Rattle.paper.specs.Prices.{HasPrice}

-- a link back that costs walkers the same
pub record Back (network : List ℕ) (k : ℕ) : Type 0 where
  pub link : ℕ
  pub exists : link < link_count network
  pub starts : from network link ≡ to network k
  pub ends : to network link ≡ from network k
  pub costs : walk network link ≡ walk network k

-- Every link that is open to walkers has one back.
abbrev pub BothWays : List ℕ → Type 0
BothWays network = (k : ℕ) → k < link_count network → walk network k < closed → Back network k

-- A walk that goes every link the way it leads,
abbrev pub OneWayWalk : List ℕ → ℕ → ℕ → List ℕ → ℕ → Type 0
OneWayWalk network u v links sum = Way (Leads network (walk network)) v u links sum

-- and the walking distance if there were no others.
abbrev pub OneWayDistance : List ℕ → ℕ → ℕ → ℕ → Type 0
OneWayDistance network u v d =
    ((links : List ℕ) × OneWayWalk network u v links d) × ((links : List ℕ) (sum : ℕ) → OneWayWalk network u v links sum → d ≤ sum)

-- A link that is open to the bus or to walkers costs both the same, and there is a link back.
pub record TwoWay (network : List ℕ) : Type 0 where
  pub alike : (k : ℕ) → k < link_count network → (drive network k < closed) ⊎ (walk network k < closed)
      → drive network k ≡ walk network k
  pub back : BothWays network

-- The graph of a network: each link that can be walked is an edge.
unfoldable pub graph_of : List ℕ → Graph
unfolding ⊎_swap
graph_of network =
    record { Edge = λ u v w. (k : ℕ) × Walkable network k u v w; undirected = λ u v w edge. (edge.0, ⊎_swap edge.1) }

-- The bus weighs a, every rider w.
pub record EqualWeights (q : Request) (w : ℕ) : Type 0 where
  pub bus : 0 < bus_weight_of q
  pub positive : 0 < w
  pub riders : (j : ℕ) → j < rider_count_of q → rider_weight_of q j ≡ w

-- The paper weighs the driver's cost α and the riders' 1 - α. With α = a/(a+w) that is a : w, in whole numbers (a+w) × α = a and
-- (a+w) × (1 - α) = w.
abbrev pub query_of : (q : Request) (w : ℕ) → EqualWeights q w → Query
query_of q w weights =
    record {
      s = q.source;
      t = q.target;
      l = rider_count_of q;
      U = rider_node_of q;
      alpha = record { top = bus_weight_of q; bottom = bus_weight_of q + w; positive = omega arith };
      above = weights.bus;
      below = omega arith;
    }

-- The nodes that a way passes behind its start.
unfoldable pub way_nodes : {Link : ℕ → ℕ → ℕ → ℕ → Type 0} {v u c : ℕ} {links : List ℕ} → Way Link v u links c → List ℕ
way_nodes (arrived here free) = []
way_nodes (along x w rest link way e) = x ∷ way_nodes way

-- Of a route, these are where its links lead to.
abbrev pub nodes_of : List ℕ → List ℕ → List ℕ
nodes_of network route = map (to network) route

-- A path P with f(P) = f, as a route through the same nodes whose price is (a+w) × f.
pub record PricedPath (network : List ℕ) (q : Request) (w : ℕ) (P : List ℕ) (f : Fraction) : Type 0 where
  pub route : List ℕ
  pub nodes : nodes_of network route ≡ P
  pub price : ℕ
  pub priced : HasPrice network q route price
  pub is : IsWhole (times f (bus_weight_of q + w)) price
