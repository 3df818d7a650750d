-- A plan is a route with a position for each rider, and its cost the sum taken there.
use Prim.Native.Nat.{ℕ, zero, suc, ◌+◌, ◌-◌, ◌*◌, ◌^◌, ◌<◌, ◌≤◌}
use mathlib.Core.Path.{◌≡◌, refl, sym, ap, subst, ◌∙◌}
use mathlib.Core.Logic.{◌↔◌}
use mathlib.Core.List.{List, [], ◌∷◌, map}
use lib.ListN.{length, get_or}
use lib.Pow.{pow_pos}
use native.Mathlib.Nat.{add-zero, mul-add, mul-zero}
use native.Mathlib.Decide.{ℕ_discrete}
use native.Mathlib.Omega.{arith}
use Rattle.rules.specs.Limits.{first_drive, most_riders}
use Rattle.rules.specs.Network.{SoundNetwork, node_count}
use Rattle.rules.specs.Request.{rider_node_of, rider_weight_of, SoundValue, rider_count_of, bus_weight_of}
use Rattle.rules.specs.Walks.{Way, arrived, along, Walk}
use Rattle.rules.specs.Routes.{Drivable, Route, RiderWalks, node_at, Reaches, sum, Price}
use Rattle.rules.specs.Plans.{drive_step, Finish, arrive, drive, Plan, RightPlan, NoPlan}
use Rattle.rules.specs.declared.Request.{Request}
use Rattle.rules.proofs.PlanLaws.{all_riders_below, few_sets}
use Rattle.least.proofs.Decide.{some_distance}
use Rattle.least.proofs.Collect.{collect}
use Rattle.finish.proofs.Sets.{all_have}
use Rattle.right.specs.Steps.{drives_of, met_at, SumAt, Along, NoDrive}
use Rattle.right.proofs.Steps.{first_without, drives_link}
use Rattle.right.proofs.Meetings.{besides_drives, besides_at, besides_other, Inserted, insert}
use Rattle.right.proofs.Driving.{drives_on, met_there, met_cost}

-- the steps that drive a route and meet nobody
drives_map : (route : List ℕ) → drives_of (map drive_step route) ≡ route
unfolding drives_of
drives_map [] = refl
drives_map (k ∷ route) = drives_link (map drive_step route) refl ∙ ap (λ (l : List ℕ). k ∷ l) (drives_map route)

module _ {network : List ℕ} {q : Request} where
  way_finish : {v driving : ℕ} {route : List ℕ} → Way (Drivable network) q.target v route driving
      → Finish network q 0 v (map drive_step route) (bus_weight_of q * driving)
  way_finish (arrived t z) = arrive refl t (ap (λ (c : ℕ). bus_weight_of q * c) z ∙ mul-zero (bus_weight_of q))
  way_finish (along {k = k} x w rest link way e) =
      drive k x w (bus_weight_of q * rest) refl link (way_finish way) (ap (λ (c : ℕ). bus_weight_of q * c) e ∙ mul-add (bus_weight_of q) w rest)

  -- One rider more, inserted at its position.
  along_more : {l c : ℕ} {route : List ℕ} {position : ℕ → ℕ} → l < first_drive → (t : Along network q l route position c)
      → {cost : ℕ} → Inserted network q (2 ^ suc l - 1) q.source l (position l) t.steps cost
      → Along network q (suc l) route position cost
  along_more {l} rider t p =
      record {
        steps = p.others;
        finishes = p.finishes;
        drives = besides_drives rider p.besides ∙ t.drives;
        meets = λ j h. elim (ℕ_discrete j l) [
          | yes e ↦ rw e (besides_at rider p.besides)
          | no g ↦ besides_other rider {i = j} (omega arith) g p.besides ∙ t.meets j (omega arith)
        ];
      }

  -- Steps for the first l riders, by induction on l: the next one is inserted at its position, after the others that are met there.
  along_first : {driving : ℕ} {route : List ℕ} (position walking : ℕ → ℕ) (l : ℕ) → l ≤ most_riders → Route network q route driving
      → ((j : ℕ) → j < l → position j ≤ length route)
      → ((j : ℕ) → j < l → RiderWalks network q j (node_at network q.source route (position j)) (walking j))
      → Along network q l route position (bus_weight_of q * driving + sum l (λ j. rider_weight_of q j * walking j))
  unfolding sum
  along_first {route = route} position walking zero small way within walks =
      record {
        steps = map drive_step route;
        finishes = rw add-zero (way_finish way);
        drives = drives_map route;
        meets = λ j h. absurd (omega arith);
      }
  along_first {route = route} position walking (suc l) small way within walks =
      let t = along_first position walking l (omega arith) way (λ j h. within j (omega arith)) (λ j h. walks j (omega arith)) in
      let p = insert {d = walking l} (few_sets small (omega (arith, pow_pos (suc l)))) ((all_have (suc l) l).1 (omega arith))
      (sym (first_without l))
      t.finishes
      (position l)
      (rw t.drives (within l (omega arith)))
      (rw t.drives (walks l (omega arith))) in
      subst (Along network q (suc l) route position) (omega arith) (along_more (omega arith) t p)

  -- The price is the sum at the meeting positions.
  price_sum : {route meetings : List ℕ} {price : ℕ} → Price network q route meetings price
      → SumAt network q route (λ j. get_or meetings j 0) price
  price_sum p =
      record {
        driving = p.driving;
        walking = p.walking;
        drives = p.drives;
        within = λ j h. (p.meets j h).within;
        walks = λ j h. (p.meets j h).walks;
        adds = p.adds;
      }

  module _ (riders : rider_count_of q ≤ most_riders) where
    -- The drive steps of a plan are a route. Each rider is met at a position of it, and the plan's cost is the sum taken there.
    pub plan_sum : {steps : List ℕ} {cost : ℕ} → Plan network q steps cost → SumAt network q (drives_of steps) (λ j. met_at j steps) cost
    plan_sum {steps} f =
        let small = few_sets riders (all_riders_below q) in
        let t = drives_on small f in
        let Walks : ℕ → ℕ → Type 0 = λ j d. RiderWalks network q j (node_at network q.source (drives_of steps) (met_at j steps)) d in
        let (distances, size, walks) = collect (rider_count_of q) Walks (λ j h. (met_there j small ((all_have (rider_count_of q) j).1 h) f).1) in
        let walking : ℕ → ℕ = λ j. get_or distances j 0 in
        record {
          driving = t.driving;
          walking = walking;
          drives = t.way;
          within = λ j h. (met_there j small ((all_have (rider_count_of q) j).1 h) f).0;
          walks = walks;
          adds = met_cost (rider_count_of q) walking riders f t.way walks;
        }

    -- Conversely a route with a position for each rider has a plan at the sum taken there.
    sum_plan : {route : List ℕ} {position : ℕ → ℕ} {cost : ℕ} → SumAt network q route position cost
        → Along network q (rider_count_of q) route position cost
    sum_plan {position = position} s =
        rw s.adds (along_first position s.walking (rider_count_of q) riders s.drives s.within s.walks)

    -- Whatever route is driven, and wherever it meets the riders, it costs no less than the right plan.
    pub right_least : {steps route : List ℕ} {position : ℕ → ℕ} {cost c : ℕ} → RightPlan network q steps cost
        → SumAt network q route position c → cost ≤ c
    right_least r s = let a = sum_plan s in r.best.cheapest a.steps _ a.finishes

    pub right_cheapest : {steps route meetings : List ℕ} {cost price : ℕ} → RightPlan network q steps cost
        → Price network q route meetings price → cost ≤ price
    right_cheapest r p = right_least r (price_sum p)

  module _ (sound : SoundNetwork network) (value : SoundValue (node_count network) q) where
    -- To be able to walk to a node of the route is to have a walk there.
    pub walk_reaches : {route links : List ℕ} {j sum : ℕ} (position : ℕ) → j < rider_count_of q → position ≤ length route
        → Walk network (rider_node_of q j) (node_at network q.source route position) links sum
        → Reaches network q route j
    walk_reaches {j = j} position h within walk =
        let (d, far) = some_distance sound _ (value.nodes j h) walk in
        record { position = position; distance = d; within = within; walks = record { far = far } }

    -- Where there is no plan, no route is reached by every rider: with the positions that they reach it would be a plan.
    no_drive : NoPlan network q → NoDrive network q
    no_drive none route driving way reach =
        let At : ℕ → ℕ → ℕ → Type 0 = λ j p d. RiderWalks network q j (node_at network q.source route p) d in
        let (positions, _, there) = collect (rider_count_of q) (λ j p. (p ≤ length route) × ((d : ℕ) × At j p d))
        (λ j h. let r = reach j h in (r.position, (r.within, (r.distance, r.walks)))) in
        let (distances, _, walks) = collect (rider_count_of q) (λ j. At j (get_or positions j 0)) (λ j h. (there j h).1) in
        let a = sum_plan value.riders (record {
          driving = driving;
          walking = λ j. get_or distances j 0;
          drives = way;
          within = λ j h. (there j h).0;
          walks = walks;
          adds = refl;
        }) in
        none a.steps _ a.finishes

    -- There is no plan exactly when no route is reached by every rider.
    pub no_plan : NoPlan network q ↔ NoDrive network q
    no_plan = (
      no_drive,
      λ none steps cost f.
          let s = plan_sum value.riders f in
          none (drives_of steps) s.driving s.drives
          (λ j h. record { position = met_at j steps; distance = s.walking j; within = s.within j h; walks = s.walks j h }),
    )
