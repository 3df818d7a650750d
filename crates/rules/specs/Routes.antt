-- Routes, whom they can meet where, and their price.
use Rattle.std.specs.Prelude.{ℕ, zero, suc, ◌+◌, ◌*◌, ◌<◌, ◌≤◌, ◌≡◌, ◌⊎◌, List, [], ◌∷◌, ◌++◌, length, get_or, ltb, leb}
use Rattle.rules.specs.Checks.{Check, check, each, differ}
use Rattle.rules.specs.Limits.{closed, longest_route}
use Rattle.rules.specs.Network.{link_count, from, to, drive}
use Rattle.rules.specs.Request.{bus_weight_of, rider_count_of, rider_node_of, rider_weight_of}
use Rattle.rules.specs.Walks.{Leads, Way, WalkingDistance, no_distance}
use Rattle.rules.specs.declared.Request.{Request}
use Rattle.rules.specs.declared.refusal.Fault.TheVariants.{ClosedLink, LinkStart, LongRoute, RouteEnd, UnknownLink}

-- The bus drives links that are open to it, from source to target (2.4). Where these are one node, it need not drive.
abbrev pub Drivable : List ℕ → ℕ → ℕ → ℕ → ℕ → Type 0
Drivable network = Leads network (drive network)

abbrev pub Route : List ℕ → Request → List ℕ → ℕ → Type 0
Route network q route driving = Way (Drivable network) q.target q.source route driving

-- The node at a position of the links from u on (2.5): position 0 is u, and each link leads to one more.
unfoldable pub node_at : List ℕ → ℕ → List ℕ → ℕ → ℕ
node_at network u route zero = u
node_at network u [] (suc position) = u
node_at network u (k ∷ route) (suc position) = node_at network (to network k) route position

-- Rider j can walk to v, over the distance d: the one meaning of "can walk to", wherever a rider is met or left standing.
pub record RiderWalks (network : List ℕ) (q : Request) (j v d : ℕ) : Type 0 where
  pub far : WalkingDistance network (rider_node_of q j) v d

-- what a place holds of rider j's way to v
abbrev pub RiderHolds : List ℕ → Request → ℕ → ℕ → ℕ → Type 0
RiderHolds network q j v place = RiderWalks network q j v place ⊎ (((d : ℕ) → RiderWalks network q j v d → ⊥) × (place ≡ no_distance))

-- Rider j can walk to the node of some position of the route,
pub record Reaches (network : List ℕ) (q : Request) (route : List ℕ) (j : ℕ) : Type 0 where
  pub position : ℕ
  pub distance : ℕ
  pub within : position ≤ length route
  pub walks : RiderWalks network q j (node_at network q.source route position) distance

-- or to none.
abbrev pub Stranded : List ℕ → Request → List ℕ → ℕ → Type 0
Stranded network q route j = Reaches network q route j → ⊥

-- The position is rider j's meeting position, at the distance d: no position is nearer, and no earlier one as near (2.7).
pub record Meeting (network : List ℕ) (q : Request) (route : List ℕ) (j position d : ℕ) : Type 0 where
  pub within : position ≤ length route
  pub walks : RiderWalks network q j (node_at network q.source route position) d
  pub least : (other e : ℕ) → other ≤ length route → RiderWalks network q j (node_at network q.source route other) e → d ≤ e
  pub earliest : (other : ℕ) → other < position → RiderWalks network q j (node_at network q.source route other) d → ⊥

-- f 0 + .. + f (count - 1)
unfoldable pub sum : ℕ → (ℕ → ℕ) → ℕ
sum zero f = 0
sum (suc count) f = sum count f + f count

-- What the route costs (2.6): the bus weight times all that is driven, and each rider's weight times what the rider walks.
pub record Price (network : List ℕ) (q : Request) (route : List ℕ) (meetings : List ℕ) (price : ℕ) : Type 0 where
  pub driving : ℕ
  pub walking : ℕ → ℕ
  pub drives : Route network q route driving
  pub meets : (j : ℕ) → j < rider_count_of q → Meeting network q route j (get_or meetings j 0) (walking j)
  pub adds : price ≡ bus_weight_of q * driving + sum (rider_count_of q) (λ j. rider_weight_of q j * walking j)

-- Refusals 33 to 35 (4.5) of link k at place i of a route that stands at a node: no such link, closed to the bus, starts elsewhere.
abbrev pub driven_link_checks : List ℕ → ℕ → ℕ → ℕ → List Check
driven_link_checks network stands k i =
    check UnknownLink i (leb (link_count network) k)
    ∷ check ClosedLink i (leb closed (drive network k))
    ∷ check LinkStart i (differ (from network k) stands)
    ∷ []

abbrev pub route_link_checks : List ℕ → Request → List ℕ → ℕ → List Check
route_link_checks network q route i = driven_link_checks network (node_at network q.source route i) (get_or route i 0) i

-- Refusals 32 to 36 (4.5): too long, those of its links, and where it ends.
unfoldable pub route_checks : List ℕ → Request → List ℕ → List Check
route_checks network q route =
    check LongRoute 0 (ltb longest_route (length route))
    ∷ each (route_link_checks network q route) (length route) 0
    ++ check RouteEnd 0 (differ (node_at network q.source route (length route)) q.target)
    ∷ []
