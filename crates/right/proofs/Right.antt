-- The right plan meets each rider at the earliest nearest position, so what it costs is what its route is priced at.
use Prim.Native.Nat.{ℕ, ◌+◌, ◌*◌, ◌<◌, ◌≤◌}
use mathlib.Core.Path.{◌≡◌, refl, sym, ◌∙◌, subst}
use mathlib.Core.List.{List}
use lib.ListN.{length}
use native.Mathlib.Nat.{zero-add, le_of_mul-le-mul_left}
use native.Mathlib.Omega.{arith}
use Rattle.rules.specs.Limits.{most_riders}
use Rattle.rules.specs.Request.{rider_weight_of, SoundValue, rider_count_of}
use Rattle.rules.specs.Routes.{RiderWalks, node_at, Meeting, Price}
use Rattle.rules.specs.Plans.{Plan, RightPlan, NoLater}
use Rattle.rules.specs.declared.Request.{Request}
use Rattle.rules.proofs.RiderLaws.{rider_walks_unique}
use Rattle.rules.proofs.PlanLaws.{all_riders_below, few_sets}
use Rattle.finish.proofs.Sets.{all_have}
use Rattle.right.specs.Steps.{drives_of, met_at, positions_of, SumAt}
use Rattle.right.proofs.Steps.{meets_low, position_at}
use Rattle.right.proofs.Meetings.{besides_length, besides_drives, besides_at, leave_out, insert}
use Rattle.right.proofs.Routes.{plan_sum}

-- The plan with rider j met at the position p instead, where the rider has the walking distance e instead of d.
record Moved (network : List ℕ) (q : Request) (steps : List ℕ) (cost j p d e : ℕ) : Type 0 where
  others : List ℕ
  paid : ℕ
  plans : Plan network q others paid
  costs : paid + rider_weight_of q j * d ≡ cost + rider_weight_of q j * e
  counts : length others ≡ length steps
  earlier : p < met_at j steps → NoLater steps others → ⊥

module _ {network : List ℕ} {q : Request} where
  -- The meeting is left out and inserted at p. If that is earlier, then up to there the steps are the same; next comes the meeting,
  -- a low number, where the plan had a drive step.
  moved : {steps : List ℕ} {cost p d e : ℕ} (j : ℕ) → rider_count_of q ≤ most_riders → j < rider_count_of q → Plan network q steps cost
      → RiderWalks network q j (node_at network q.source (drives_of steps) (met_at j steps)) d
      → p ≤ length (drives_of steps)
      → RiderWalks network q j (node_at network q.source (drives_of steps) p) e
      → Moved network q steps cost j p d e
  moved {steps} {cost} {p} {d} {e} j riders h f walked within walks =
      let small = few_sets riders (all_riders_below q) in
      let has = (all_have (rider_count_of q) j).1 h in
      let rider = meets_low small has in
      let t = leave_out small has f in
      let drives = besides_drives rider t.besides in
      let place = besides_at rider t.besides in
      let same : t.distance ≡ d = rider_walks_unique t.walks (rw (drives, place) at walked) in
      let u = insert {d = e} small has refl t.finishes p (rw drives at within) (rw drives at walks) in
      record {
        others = u.others;
        paid = rider_weight_of q j * e + t.rest;
        plans = u.finishes;
        costs = omega (arith, rw same at t.costs);
        counts = besides_length u.besides ∙ sym (besides_length t.besides);
        earlier = λ less. u.ahead t.position steps (rw place at less) t.besides;
      }

  -- The route of the right plan is priced at the plan's cost, with each rider met where the plan meets them. At a nearer position the
  -- rider could be met for less, and at an earlier one with the same distance for the same cost, in as many steps, and first in the
  -- dictionary.
  pub right_price : {n : ℕ} {steps : List ℕ} {cost : ℕ} → SoundValue n q → RightPlan network q steps cost
      → Price network q (drives_of steps) (positions_of q steps) cost
  right_price {steps = steps} {cost} sound right =
      record {
        driving = s.driving;
        walking = s.walking;
        drives = s.drives;
        meets = λ j h. rw (position_at (rider_count_of q) 0 j steps h, zero-add j) (meets j h);
        adds = s.adds;
      }
    where
      plan : Plan network q steps cost
      plan = right.best.finishes

      s : SumAt network q (drives_of steps) (λ j. met_at j steps) cost
      s = plan_sum sound.riders plan

      meets : (j : ℕ) → j < rider_count_of q → Meeting network q (drives_of steps) j (met_at j steps) (s.walking j)
      meets j h =
          record {
            within = s.within j h;
            walks = s.walks j h;
            least = λ other e within walks.
                let m = moved j sound.riders h plan (s.walks j h) within walks in
                let cheap = right.best.cheapest m.others m.paid m.plans in
                le_of_mul-le-mul_left {k = rider_weight_of q j} (omega (arith, m.costs)) (sound.weights j h).0;
            earliest = λ other less walks.
                let m = moved j sound.riders h plan (s.walks j h) (omega (arith, s.within j h)) walks in
                m.earlier less (right.first m.others (subst (Plan network q m.others) (omega (arith, m.costs)) m.plans) m.counts);
          }
