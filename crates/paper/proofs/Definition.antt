-- The price of a route against the paper's f, and the cheapest routes as those that Definition 2.1 asks for.
use Prim.Native.Nat.{ℕ, zero, suc, ◌+◌, ◌*◌, ◌<◌}
use mathlib.Core.Path.{◌≡◌, refl, sym, ◌∙◌, ap, ap₂, subst}
use mathlib.Core.List.{List, ◌∷◌}
use native.Mathlib.Nat.{mul-add, mul-zero}
use native.Mathlib.Omega.{arith}
use Rattle.rules.specs.Network.{SoundNetwork, node_count}
use Rattle.rules.specs.Request.{SoundValue, rider_node_of, rider_weight_of, rider_count_of, bus_weight_of}
use Rattle.rules.specs.Routes.{Route, node_at, Reaches, RiderWalks, Meeting, sum, Price}
use Rattle.rules.specs.declared.Request.{Request}
use Rattle.rules.specs.Plans.{RightPlan}
use Rattle.rules.proofs.PriceLaws.{sum_same}
use Rattle.right.specs.Steps.{drives_of}
use Rattle.right.proofs.Right.{right_price}
use Rattle.right.proofs.Routes.{right_cheapest}
use Rattle.paper.specs.Fraction.{Fraction, times, IsWhole, AtMost}
use Rattle.paper.specs.Problem.{Graph, OneWeight, Path, stays, goes, NodeRoute, Query, average, Cost, Optimal}
use Rattle.paper.specs.Prices.{HasPrice, NoLower}
use Rattle.paper.specs.TwoWay.{TwoWay, graph_of, EqualWeights, query_of, nodes_of, PricedPath}
use Rattle.paper.proofs.Fraction.{average_is, le_at_most, at_most_le}
use Rattle.paper.proofs.TwoWay.{position_passed, passed_position, drive_path, path_drive, rider_dist}
use Rattle.paper.proofs.Prices.{nearest, meetings_price, route_price}

-- Where edges that join the same nodes have the same weight, a path has one f.
path_unique : {G : Graph} {t s c e : ℕ} {P : List ℕ} → OneWeight G → Path G t s P c → Path G t s P e → c ≡ e
path_unique one (stays _ c) (stays _ e) = cc
path_unique one (goes w rest edge path c) (goes x other also way e) = cc (one _ _ w x edge also, path_unique one path way)

near_unique : {G : Graph} {u d e : ℕ} {nodes : List ℕ} → NodeRoute G u nodes d → NodeRoute G u nodes e → d ≡ e
near_unique a b = omega (arith, a.least _ _ b.passed b.reached, b.least _ _ a.passed a.reached)

pub cost_unique : {G : Graph} {query : Query} {P : List ℕ} {f g : Fraction} → OneWeight G → Cost G query P f → Cost G query P g → f ≡ g
cost_unique {query = query} one x y =
    let d = sum_same query.l x.d y.d (λ j h. near_unique (x.near j h) (y.near j h)) in
    x.averages ∙ ap₂ (average query.alpha) (path_unique one x.path y.path) d ∙ sym y.averages

module _ {network : List ℕ} (two : TwoWay network) {q : Request} {route : List ℕ} where
  -- The rider walks to the meeting position as far as equation (1) says ..
  meeting_near : {j position d : ℕ} → Meeting network q route j position d
      → NodeRoute (graph_of network) (rider_node_of q j) (q.source ∷ nodes_of network route) d
  meeting_near {j} {position} m =
      record {
        meeting = node_at network q.source route position;
        passed = position_passed network q.source route position m.within;
        reached = (rider_dist q j).0 m.walks;
        least = λ v e on dist.
            let (other, within, is) = passed_position network q.source route on in
            m.least other e within (rw is at ((rider_dist q j).1 dist));
      }

  -- .. and a rider at such a distance has a meeting position.
  near_meeting : {j d : ℕ} → SoundNetwork network → SoundValue (node_count network) q → j < rider_count_of q
      → NodeRoute (graph_of network) (rider_node_of q j) (q.source ∷ nodes_of network route) d
      → (p : ℕ) × Meeting network q route j p d
  near_meeting {j} {d} sound value h near =
      let (position, within, is) = passed_position network q.source route near.passed in
      let walks : RiderWalks network q j (node_at network q.source route position) d = rw is at ((rider_dist q j).1 near.reached) in
      let (e, (p, m)) = nearest sound value route h (record { position = position; distance = d; within = within; walks = walks }) in
      let same : e ≡ d = near_unique (meeting_near m) near in
      (p, rw same at m)

-- a factor that all summands share
sum_times : (w count : ℕ) (f : ℕ → ℕ) → sum count (λ j. w * f j) ≡ w * sum count f
unfolding sum
sum_times w zero f = rw mul-zero
sum_times w (suc count) f = rw (mul-add, sum_times w count f)

module _ {network : List ℕ} (two : TwoWay network) {q : Request} {w : ℕ} (weights : EqualWeights q w) where
  -- P is a path for the query, and f(P) is f.
  abbrev PathCost : List ℕ → Fraction → Type 0
  PathCost = Cost (graph_of network) (query_of q w weights)

  -- The riders' part of the price, with the one weight taken out.
  same_weight : (walking : ℕ → ℕ) → sum (rider_count_of q) (λ j. rider_weight_of q j * walking j) ≡ w * sum (rider_count_of q) walking
  same_weight walking =
      sum_same (rider_count_of q) _ _ (λ j h. ap (λ (x : ℕ). x * walking j) (weights.riders j h)) ∙ sum_times w (rider_count_of q) walking

  -- The price is (a+w) × f(P), where P is the path along the route ..
  pub price_cost : {route meetings : List ℕ} {price : ℕ} → Price network q route meetings price
      → (f : Fraction) × PathCost (nodes_of network route) f × IsWhole (times f (bus_weight_of q + w)) price
  price_cost p = (
    average (query_of q w weights).alpha p.driving (sum (rider_count_of q) p.walking),
    record {
      c = p.driving;
      d = p.walking;
      path = drive_path two p.drives;
      near = λ j h. meeting_near two (p.meets j h);
      averages = refl;
    },
    rw (p.adds, same_weight p.walking) (average_is (bus_weight_of q) w (omega arith) p.driving (sum (rider_count_of q) p.walking)),
  )

  -- .. and no other number is f(P), unless links between the same nodes differ in cost.
  pub price_is : {route meetings : List ℕ} {price : ℕ} {f : Fraction} → OneWeight (graph_of network)
      → Price network q route meetings price → PathCost (nodes_of network route) f → IsWhole (times f (bus_weight_of q + w)) price
  price_is {price = price} one p x =
      let (g, y, is) = price_cost p in
      subst (λ (h : Fraction). IsWhole (times h (bus_weight_of q + w)) price) (cost_unique one y x) is

  module _ (sound : SoundNetwork network) (value : SoundValue (node_count network) q) where
    -- A legal route whose riders all reach it has a price, and it is (a+w) × f(P).
    pub route_cost : {route : List ℕ} {driving : ℕ} → Route network q route driving
        → ((j : ℕ) → j < rider_count_of q → Reaches network q route j)
        → (price : ℕ) × (f : Fraction) × HasPrice network q route price × PathCost (nodes_of network route) f
        × IsWhole (times f (bus_weight_of q + w)) price
    route_cost drives reaches =
        let (price, has) = route_price sound value _ drives reaches in
        let (f, x, is) = price_cost has.prices in
        (price, f, has, x, is)

    -- Where c is what driving it costs and d what equation (1) says, that price is a × c + w × sum of d.
    pub route_worth : {route : List ℕ} {c : ℕ} (d : ℕ → ℕ) → Route network q route c
        → ((j : ℕ) → j < rider_count_of q → NodeRoute (graph_of network) (rider_node_of q j) (q.source ∷ nodes_of network route) (d j))
        → HasPrice network q route (bus_weight_of q * c + w * sum (rider_count_of q) d)
    route_worth d drives near =
        rw (← same_weight d) (meetings_price q d drives (λ j h. near_meeting two sound value h (near j h)))

    -- Every path with an f is that of a route whose price is (a+w) × f.
    pub cost_price : {P : List ℕ} {f : Fraction} → PathCost P f → PricedPath network q w P f
    cost_price x =
        let (route, drives, nodes) = path_drive two x.path in
        record {
          route = route;
          nodes = nodes;
          price = bus_weight_of q * x.c + w * sum (rider_count_of q) x.d;
          priced = route_worth x.d drives (λ j h. rw nodes (x.near j h));
          is = rw x.averages (average_is (bus_weight_of q) w (omega arith) x.c (sum (rider_count_of q) x.d));
        }

    -- A route of least price goes along a path that Definition 2.1 asks for ..
    pub lowest_optimal : {route meetings : List ℕ} {price : ℕ} → Price network q route meetings price → NoLower network q price
        → (f : Fraction) × Optimal (graph_of network) (query_of q w weights) (nodes_of network route) f
        × IsWhole (times f (bus_weight_of q + w)) price
    lowest_optimal {price = price} p low =
        let (f, x, is) = price_cost p in
        let least : (P : List ℕ) (g : Fraction) → PathCost P g → AtMost f g = λ P g y.
        let r = cost_price y in
        le_at_most f g (bus_weight_of q + w) price r.price (omega arith) is r.is (low _ _ _ r.priced.prices) in
        (f, record { costs = x; least = least }, is)

    -- .. so the route of the right plan does, which costs a+w times the f of that path ..
    pub right_optimal : {steps : List ℕ} {cost : ℕ} → RightPlan network q steps cost
        → (f : Fraction) × Optimal (graph_of network) (query_of q w weights) (nodes_of network (drives_of steps)) f
        × IsWhole (times f (bus_weight_of q + w)) cost
    right_optimal right = lowest_optimal (right_price value right) (λ route meetings price. right_cheapest value.riders right)

    -- .. and each such path is that of a route of least price.
    pub optimal_lowest : {P : List ℕ} {f : Fraction} → Optimal (graph_of network) (query_of q w weights) P f
        → (r : PricedPath network q w P f) × NoLower network q r.price
    optimal_lowest {f = f} o =
        let r = cost_price o.costs in (
          r,
          λ route meetings price p.
              let (g, y, is) = price_cost p in
              at_most_le f g (bus_weight_of q + w) r.price price (omega arith) r.is is (o.least _ g y),
        )
