-- Walks are the paths of a network's graph, and walking distances the lengths of its shortest paths; where links exist both ways, routes
-- are paths too.
use Prim.Native.Nat.{ℕ, zero, suc, ◌≤◌}
use mathlib.Core.Path.{◌≡◌, refl, sym, ap₂}
use mathlib.Core.Logic.{inl, inr, ⊎_elim, ◌↔◌}
use mathlib.Core.List.Memᴰ
use mathlib.Core.List.{List, [], ◌∷◌, Memᴰ}
use native.Mathlib.Omega.{arith}
use lib.ListN.{length}
use Rattle.rules.specs.Network.{to, walk}
use Rattle.rules.specs.Request.{rider_node_of}
use Rattle.rules.specs.Walks.{Leads, Way, arrived, along, Walkable, Walk, WalkingDistance}
use Rattle.rules.specs.Routes.{Drivable, node_at, RiderWalks}
use Rattle.rules.specs.declared.Request.{Request}
use Rattle.rules.proofs.WalkLaws.{walk_along, leads_same}
use Rattle.paper.specs.Problem.{Graph, Path, stays, goes, Dist}
use Rattle.paper.specs.TwoWay.{BothWays, OneWayWalk, OneWayDistance, TwoWay, graph_of, way_nodes, nodes_of}
use Rattle.paper.proofs.Ways.{way_same}

-- The positions of a route are the nodes of its path.
pub position_passed : (network : List ℕ) (u : ℕ) (route : List ℕ) (position : ℕ) → position ≤ length route
    → Memᴰ (node_at network u route position) (u ∷ nodes_of network route)
unfolding node_at
position_passed network u route zero h = Memᴰ.head refl
position_passed network u [] (suc position) h = Memᴰ.head refl
position_passed network u (k ∷ route) (suc position) h = Memᴰ.tail (position_passed network (to network k) route position (omega arith))

pub passed_position : (network : List ℕ) (u : ℕ) (route : List ℕ) {v : ℕ} → Memᴰ v (u ∷ nodes_of network route)
    → (position : ℕ) × (position ≤ length route) × (v ≡ node_at network u route position)
unfolding node_at
passed_position network u [] (Memᴰ.head e) = (0, omega arith, e)
passed_position network u [] (Memᴰ.tail h) = absurd (Memᴰ.not-nil h)
passed_position network u (k ∷ route) (Memᴰ.head e) = (0, omega arith, e)
passed_position network u (k ∷ route) (Memᴰ.tail h) =
    let (position, within, e) = passed_position network (to network k) route h in
    (suc position, omega arith, e)

-- The nodes of a route's way.
pub route_nodes : {network : List ℕ} {v u c : ℕ} {route : List ℕ} (way : Way (Drivable network) v u route c)
    → way_nodes way ≡ nodes_of network route
unfolding way_nodes
route_nodes (arrived here free) = refl
route_nodes (along x w rest link way e) = ap₂ ◌∷◌ (sym link.ends) (route_nodes way)

-- Along links that are edges, a way is a path of the same cost through the same nodes.
way_path : {G : Graph} {Link : ℕ → ℕ → ℕ → ℕ → Type 0} → ((k u v w : ℕ) → Link k u v w → G.Edge u v w)
    → {v u c : ℕ} {links : List ℕ} (way : Way Link v u links c) → Path G v u (way_nodes way) c
unfolding way_nodes
way_path edges (arrived here free) = stays here free
way_path edges (along {k = k} x w rest link way e) = goes w rest (edges k _ x w link) (way_path edges way) e

-- Walks are the paths of the graph.
walk_path : {network : List ℕ} {u v c : ℕ} {links : List ℕ} (walk : Walk network u v links c) → Path (graph_of network) v u (way_nodes walk) c
unfolding graph_of
walk_path walk = way_path (λ k u v w link. (k, link)) walk

path_walk : {network : List ℕ} {v u c : ℕ} {P : List ℕ} → Path (graph_of network) v u P c → (links : List ℕ) × Walk network u v links c
unfolding graph_of
path_walk (stays here free) = ([], arrived here free)
path_walk (goes w rest (k, link) path e) =
    let (links, walk) = path_walk path in
    (k ∷ links, along _ w rest link walk e)

-- So the distance that a rider walks, in any network, is that of the shortest path.
pub rider_dist : {network : List ℕ} (q : Request) (j : ℕ) {v d : ℕ} → RiderWalks network q j v d ↔ Dist (graph_of network) (rider_node_of q j) v d
rider_dist q j = (
  λ walks.
      let far = walks.far in
      record {
        nodes = way_nodes far.walked;
        path = walk_path far.walked;
        shortest = λ others c path. let (links, walk) = path_walk path in far.least links c walk;
      },
  λ dist.
      let (links, walk) = path_walk dist.path in
      record { far = record { links = links; walked = walk; least = λ other sum w. dist.shortest _ sum (walk_path w) } },
)

module _ {network : List ℕ} (back : BothWays network) where
  -- A link that is walked back has a link in its place that leads there.
  leads_back : {k u v w : ℕ} → Leads network (walk network) k v u w → (l : ℕ) × Leads network (walk network) l u v w
  leads_back {k} link =
      let b = back k link.exists (omega arith) in
      (b.link, record { exists = b.exists; starts = cc; ends = cc; costs = cc; opened = link.opened })

  walk_leads : {k u v w : ℕ} → Walkable network k u v w → (l : ℕ) × Leads network (walk network) l u v w
  walk_leads {k} link = ⊎_elim (λ there. (k, there)) leads_back link

  -- So every walk has one as long that goes the way of each of its links,
  walk_one_way : {v u c : ℕ} {links : List ℕ} → Walk network u v links c → (others : List ℕ) × OneWayWalk network u v others c
  walk_one_way (arrived here free) = ([], arrived here free)
  walk_one_way (along x w rest link way e) =
      let (k, leads) = walk_leads link in
      let (others, there) = walk_one_way way in
      (k ∷ others, along x w rest leads there e)

  -- and nobody walks less far for walking links back.
  pub one_way_same : {u v d : ℕ} → WalkingDistance network u v d ↔ OneWayDistance network u v d
  one_way_same = (
    λ far. (walk_one_way far.walked, λ links sum way. far.least links sum (either_way way)),
    λ ((links, way), low). record { links = links; walked = either_way way; least = λ other sum walk. low _ sum (walk_one_way walk).1 },
  )
    where
      either_way : {u v c : ℕ} {links : List ℕ} → OneWayWalk network u v links c → Walk network u v links c
      either_way way = way_same (λ k u v w on. walk_along) way

module _ {network : List ℕ} (two : TwoWay network) where
  -- What can be driven can be walked, and where one can walk along a link, some link can be driven.
  drive_walks : (k u v w : ℕ) → Drivable network k u v w → Walkable network k u v w
  drive_walks k u v w link = walk_along (leads_same refl refl refl (two.alike k link.exists (inl (omega arith))) link)

  walk_drives : {k u v w : ℕ} → Walkable network k u v w → (l : ℕ) × Drivable network l u v w
  walk_drives link =
      let (l, leads) = walk_leads two.back link in
      (l, leads_same refl refl refl (sym (two.alike l leads.exists (inr (omega arith)))) leads)

  -- So a drive is a path through the same nodes, and every path is such a drive.
  pub drive_path : {u v c : ℕ} {route : List ℕ} → Way (Drivable network) v u route c → Path (graph_of network) v u (nodes_of network route) c
  unfolding graph_of
  drive_path way = rw (← route_nodes way) (way_path (λ k u v w link. (k, drive_walks k u v w link)) way)

  pub path_drive : {v u c : ℕ} {P : List ℕ} → Path (graph_of network) v u P c
      → (route : List ℕ) × Way (Drivable network) v u route c × (nodes_of network route ≡ P)
  unfolding graph_of
  path_drive (stays here free) = ([], arrived here free, refl)
  path_drive (goes w rest (k, walk) path e) =
      let (route, way, same) = path_drive path in
      let (l, link) = walk_drives walk in
      (l ∷ route, along _ w rest link way e, ap₂ ◌∷◌ link.ends same)
