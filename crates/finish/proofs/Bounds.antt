-- How large the numbers of a finish are, and what the place of the table says of it.
use Prim.Native.Nat.{ℕ, zero, suc, ◌+◌, ◌-◌, ◌*◌, ◌^◌, ◌≤◌, ◌<◌}
use mathlib.Core.Path.{◌≡◌, refl}
use mathlib.Core.Logic.{inl, inr}
use mathlib.Core.List.{List}
use native.Mathlib.Nat.{mul-le-mul}
use native.Mathlib.Decide.{dec_lt}
use native.Mathlib.Omega.{arith}
use lib.Count.{ones, ones-le, ones-ones}
use lib.ListN.{length, get_or}
use Rattle.rules.specs.Limits.{most_nodes, most_links, closed, most_riders, most_weight, first_drive, pack}
use Rattle.rules.specs.Network.{SoundNetwork, node_count}
use Rattle.rules.specs.Request.{SoundValue, rider_count_of}
use Rattle.rules.specs.Routes.{RiderWalks}
use Rattle.rules.specs.Plans.{Finish, arrive, meet, drive, Plan, Best, RightPlan}
use Rattle.rules.specs.Rooms.{HoldsFinish, no_finish, step_places}
use Rattle.rules.specs.declared.Request.{Request}
use Rattle.rules.proofs.WalkLaws.{leads_joins}
use Rattle.rules.proofs.PlanLaws.{all_riders_below}
use Rattle.least.specs.Least.{Least}
use Rattle.least.specs.WalkTrips.{longest_walk}
use Rattle.least.proofs.Least.{least_none}
use Rattle.least.proofs.WalkTrips.{walking_bounded}
use Rattle.finish.specs.Short.{most_cost, Bounded}
use Rattle.finish.specs.Packed.{Packed, Unpacks}
use Rattle.finish.proofs.Sets.{has_below, ones_without, without_less}
use Rattle.finish.proofs.Packing.{packed}
use Rattle.finish.proofs.Shortening.{shorter}

-- what one drive, and one rider's walk, cost at their most
abbrev dearest_drive : ℕ
dearest_drive = most_weight * (closed - 1)

abbrev dearest_walk : ℕ
dearest_walk = most_weight * longest_walk

pub most_cost_is : most_cost ≡ 50231811000
most_cost_is = refl

module _ {network : List ℕ} (sound : SoundNetwork network) where
  pub rider_bounded : {q : Request} {j v d : ℕ} → v < node_count network → RiderWalks network q j v d → d ≤ longest_walk
  rider_bounded h walks = walking_bounded sound h walks.far

  module _ {q : Request} (value : SoundValue (node_count network) q) where
    -- A plan is a list of small numbers: its steps fit 16 bits.
    finish_small : {R v cost : ℕ} {steps : List ℕ} → R < 2 ^ rider_count_of q → Finish network q R v steps cost
        → (i : ℕ) → get_or steps i 0 < first_drive + most_links
    finish_small small (arrive none here free) i = omega arith
    finish_small {R} small (meet {j = j} d rest has walks f e) zero = omega (arith, has_below R j (rider_count_of q) small has, value.riders)
    finish_small {R} small (meet {j = j} d rest has walks f e) (suc i) = finish_small (omega (arith, without_less R j has)) f i
    finish_small small (drive k x w rest s leads f e) zero = omega (arith, leads.exists, sound.links)
    finish_small small (drive k x w rest s leads f e) (suc i) = finish_small small f i

    pub plan_small : {steps : List ℕ} {cost : ℕ} → Plan network q steps cost → (i : ℕ) → get_or steps i 0 < 65536
    plan_small plan i = omega (arith, finish_small (all_riders_below q) plan i)

    -- A finish meets each rider of R once, and drives with its other steps.
    costs : {R v cost : ℕ} {steps : List ℕ} → R < 2 ^ rider_count_of q → v < node_count network → Finish network q R v steps cost
        → cost + ones R * dearest_drive ≤ length steps * dearest_drive + ones R * dearest_walk
    costs small h (arrive none here free) = omega arith
    costs {R} small h (meet {j = j} d rest has walks f e) =
        let weight = (value.weights j (has_below R j (rider_count_of q) small has)).1 in
        omega (arith, mul-le-mul weight (rider_bounded h walks), ones_without R j has, costs (omega (arith, without_less R j has)) h f)
    costs small h (drive k x w rest s leads f e) =
        let cheap : w ≤ closed - 1 = omega arith in
        omega (arith, mul-le-mul value.bus.1 cheap, costs small (leads_joins sound leads).end f)

    module _ {R v : ℕ} (small : R < 2 ^ rider_count_of q) (h : v < node_count network) where
      bound : {steps : List ℕ} {cost : ℕ} → Finish network q R v steps cost → length steps ≤ step_places (node_count network) (ones R)
          → Bounded (node_count network) (ones R) steps cost
      bound f short =
          let riders : ones R + 1 ≤ most_riders + 1 = omega (arith, ones-le (rider_count_of q) R small, value.riders) in
          let nodes : node_count network - 1 ≤ most_nodes - 1 = omega (arith, sound.nodes) in
          record {
            short = short;
            few = omega (arith, mul-le-mul riders nodes);
            cheap = omega (arith, mul-le-mul riders nodes, costs small h f);
          }

      -- A best finish has no more steps than the one of few steps that costs no more, since that costs the same.
      pub best_bounded : {steps : List ℕ} {cost : ℕ} → Best network q R v steps cost → Bounded (node_count network) (ones R) steps cost
      best_bounded {cost = cost} best =
          let s = shorter sound h best.finishes in
          let same : s.cost ≡ cost = omega (arith, best.cheapest s.steps s.cost s.finishes) in
          bound best.finishes (omega (arith, best.fewest s.steps (rw same at s.finishes)))

      pub unpacks : {steps : List ℕ} {cost place : ℕ} → Best network q R v steps cost → place ≡ pack cost (length steps)
          → Unpacks place steps cost
      unpacks best packs = let b = best_bounded best in record { below = omega arith; quotient = omega arith; remainder = omega arith }

      -- The shorter finish packs into a number below the cap.
      undercuts : {steps : List ℕ} {cost place : ℕ} → Least no_finish (Packed network q R v) place → Finish network q R v steps cost
          → (place < pack (cost + 1) 0) × (place < no_finish)
      undercuts l f =
          let s = shorter sound h f in
          let b = bound s.finishes s.short in
          let least = l.lowest _ (packed s.finishes) in
          (omega arith, omega arith)

      -- A place with the least packed sum holds the best finish. Each finish has a rival of no larger cost and fewer steps than the
      -- range of steps, and the packed sums of such rivals are in the order of their costs. If the place is the cap there is no
      -- finish, since its rival's packed sum would be below the cap.
      pub least_holds : {place : ℕ} → Least no_finish (Packed network q R v) place → HoldsFinish network q R v place
      least_holds {place} l = elim (dec_lt place no_finish) [
        | yes g ↦ (
            let p = l.met g in
            let best : Best network q R v p.steps p.cost = record {
              finishes = p.finishes;
              cheapest = λ other c f. omega (arith, undercuts l f);
              fewest = λ other f. omega (arith, l.lowest _ (packed f));
            } in
            inl (record { steps = p.steps; cost = p.cost; best = best; packs = p.packs })
            )
        | no g ↦ inr ((λ steps cost f. omega (arith, undercuts l f)), omega arith)
      ]

      -- A best finish packs into a number that is at most any other's: its cost is lower, or the same with no more steps.
      packs_least : {steps others : List ℕ} {cost c : ℕ} → Best network q R v steps cost → Finish network q R v others c
          → pack cost (length steps) ≤ pack c (length others)
      packs_least {others = others} {cost} {c} best f =
          let b = best_bounded best in
          let cheapest = best.cheapest others c f in
          elim (dec_lt cost c) [
            | yes g ↦ omega arith
            | no g ↦ (let same : c ≡ cost = omega arith in omega (arith, best.fewest others (rw same at f)))
          ]

      -- The number that packs the best finish is the least packed sum, since the best has few steps.
      pub holds_least : {place : ℕ} → HoldsFinish network q R v place → Least no_finish (Packed network q R v) place
      holds_least (inl f) =
          let u = unpacks f.best f.packs in
          record {
            capped = omega arith;
            lowest = λ d p. omega (arith, packs_least f.best p.finishes);
            met = λ g. rw f.packs (packed f.best.finishes);
          }
      holds_least (inr f) = rw f.1 (least_none (λ x p. f.0 _ _ p.finishes))

    -- How many steps a right plan has at most, and what it costs at most (2.11).
    pub right_plan_bounded : {steps : List ℕ} {cost : ℕ} → RightPlan network q steps cost
        → Bounded (node_count network) (rider_count_of q) steps cost
    right_plan_bounded right = rw ones-ones at (best_bounded (all_riders_below q) value.starts right.best)
