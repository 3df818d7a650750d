-- What a price rests on: the drive costs of the links driven, and the walk costs that make up the riders' distances.
use Prim.Native.Nat.{ℕ, zero, suc, ◌≤◌}
use mathlib.Core.Path.{◌≡◌, refl, sym}
use mathlib.Core.Logic.Iff
use mathlib.Core.Logic.{◌↔◌}
use mathlib.Core.List.{List, [], ◌∷◌}
use native.Mathlib.Omega.{arith}
use Rattle.rules.specs.Network.{to, walk}
use Rattle.rules.specs.Routes.{Route, node_at, RiderWalks, Meeting, Price}
use Rattle.rules.specs.declared.Request.{Request}
use Rattle.rules.proofs.WalkLaws.{leads_same}
use Rattle.rules.proofs.RouteLaws.{KnownLinks, way_known}
use Rattle.paper.specs.Alike.{SameLinks, SameDriving, SameWalking, SameOnRoute, SameDistances, SameButWalk, Needless}
use Rattle.paper.proofs.Ways.{way_same}
use Rattle.paper.proofs.Distances.{links_back, walking_same, needless_same}

module _ {a b : List ℕ} (s : SameLinks a b) where
  -- Links pass the same nodes in both networks.
  nodes_same : (u : ℕ) (links : List ℕ) → KnownLinks a links → (position : ℕ) → node_at a u links position ≡ node_at b u links position
  unfolding node_at
  nodes_same u links known zero = refl
  nodes_same u [] known (suc position) = refl
  nodes_same u (k ∷ links) known (suc position) =
      rw (s.ends k (known 0 (omega arith))) (nodes_same (to b k) links (λ i h. known (suc i) (omega arith)) position)

  -- A route rests on the drive costs of its links alone ..
  route_moves : (q : Request) {route : List ℕ} {driving : ℕ} → SameOnRoute a b route → Route a q route driving → Route b q route driving
  route_moves q same way =
      way_same (λ k u v w on l. let h = l.exists in leads_same s.count (s.starts k h) (s.ends k h) (same k on h) l) way

  -- .. a meeting on the rider's walking distances alone ..
  meeting_moves : {q : Request} {route : List ℕ} {j p d : ℕ} → KnownLinks a route
      → ((v e : ℕ) → RiderWalks a q j v e ↔ RiderWalks b q j v e) → Meeting a q route j p d → Meeting b q route j p d
  meeting_moves {q} {route} known walks m =
      let node = nodes_same q.source route known in
      record {
        within = m.within;
        walks = rw (← node _) ((walks _ _).0 m.walks);
        least = λ other e g far. m.least other e g ((walks _ _).1 (rw (node other) far));
        earliest = λ other g far. m.earliest other g ((walks _ _).1 (rw (node other) far));
      }

  -- .. and the price on the two.
  price_moves : {q : Request} {route meetings : List ℕ} {price : ℕ} → SameOnRoute a b route → SameDistances a b q
      → Price a q route meetings price → Price b q route meetings price
  price_moves {q} same walks p =
      record {
        driving = p.driving;
        walking = p.walking;
        drives = route_moves q same p.drives;
        meets = λ j h. meeting_moves (way_known p.drives) (λ v e. walks j v e h) (p.meets j h);
        adds = p.adds;
      }

  on_route_back : {route : List ℕ} → SameOnRoute a b route → SameOnRoute b a route
  on_route_back same k on h = sym (same k on (rw s.count h))

-- Whatever happens to walk costs, the routes are the same, and so is what driving them costs.
pub route_same : {a b : List ℕ} (q : Request) {route : List ℕ} {driving : ℕ} → SameDriving a b
    → Route a q route driving ↔ Route b q route driving
route_same q s =
    let same : SameOnRoute _ _ _ = λ k on. s.drives k in
    (route_moves s.links q same, route_moves (links_back s.links) q (on_route_back s.links same))

-- Whatever happens to drive costs, the riders are met at the same positions, and walk as far.
pub meeting_same : {a b : List ℕ} {q : Request} {route : List ℕ} {j p d : ℕ} → SameWalking a b → KnownLinks a route
    → Meeting a q route j p d ↔ Meeting b q route j p d
meeting_same s known = (
  meeting_moves s.links known (λ v e. walking_same s),
  meeting_moves (links_back s.links) (λ i h. rw (← s.links.count) (known i h)) (λ v e. Iff.symm (walking_same s)),
)

module _ {a b : List ℕ} {q : Request} {route meetings : List ℕ} {price : ℕ} where
  price_same : SameLinks a b → SameOnRoute a b route → SameDistances a b q → Price a q route meetings price ↔ Price b q route meetings price
  price_same s same walks =
      (price_moves s same walks, price_moves (links_back s) (on_route_back s same) (λ j v d h. Iff.symm (walks j v d h)))

  -- The price rests on no drive cost of a link that is not in the route.
  pub price_same_walking : SameWalking a b → SameOnRoute a b route → Price a q route meetings price ↔ Price b q route meetings price
  price_same_walking s same = price_same s.links same (λ j v d h. walking_same s)

  -- The price rests on walk costs only by the riders' walking distances.
  pub price_same_driving : SameDriving a b → SameDistances a b q → Price a q route meetings price ↔ Price b q route meetings price
  price_same_driving s walks = price_same s.links (λ k on. s.drives k) walks

  -- Closing a needless link to walkers, or raising its walk cost, leaves every price alone.
  pub price_needless : {k : ℕ} → SameButWalk k a b → Needless a k → walk a k ≤ walk b k
      → Price a q route meetings price ↔ Price b q route meetings price
  price_needless s needless more = price_same_driving s.driving (λ j v d h. needless_same s needless more)
