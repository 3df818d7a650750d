-- What a finish drives, whom it meets where, and what it costs.
use Prim.Native.Nat.{ℕ, zero, suc, ◌+◌, ◌-◌, ◌*◌, ◌^◌, ◌<◌, ◌≤◌}
use mathlib.Core.Path.{◌≡◌, refl, sym, ap, ◌∙◌}
use mathlib.Core.Logic.{◌≢◌}
use mathlib.Core.List.{List}
use lib.Count.{ones}
use lib.ListN.{length}
use lib.Pow.{pow_pos}
use native.Mathlib.Nat.{mul-add, mul-zero}
use native.Mathlib.Decide.{ℕ_discrete}
use native.Mathlib.Omega.{arith}
use Rattle.rules.specs.Limits.{first_drive, most_riders}
use Rattle.rules.specs.Request.{rider_weight_of, bus_weight_of}
use Rattle.rules.specs.Walks.{Way, arrived, along}
use Rattle.rules.specs.Routes.{Drivable, RiderWalks, node_at, sum}
use Rattle.rules.specs.Plans.{Has, Finish, arrive, meet, drive}
use Rattle.rules.specs.declared.Request.{Request}
use Rattle.rules.proofs.WalkLaws.{way_sum}
use Rattle.rules.proofs.RiderLaws.{rider_walks_unique}
use Rattle.rules.proofs.PlanLaws.{few_sets}
use Rattle.right.specs.Steps.{drives_of, met_at, times_met}
use Rattle.finish.proofs.Sets.{none_has, ones_without, nobody, without_others, all_have}
use Rattle.right.proofs.Steps.{meets_low, first_without, drives_meet, drives_link, times_here, times_other}
use Rattle.right.proofs.Meetings.{besides_drives, besides_at, besides_other, leave_out}

-- The drive steps of a finish lead from v to the target. Where nobody is left to be met, driving is all that it costs.
pub record DrivesOn (network : List ℕ) (q : Request) (R v : ℕ) (steps : List ℕ) (cost : ℕ) : Type 0 where
  pub driving : ℕ
  pub way : Way (Drivable network) q.target v (drives_of steps) driving
  pub paid : R ≡ 0 → cost ≡ bus_weight_of q * driving

module _ {network : List ℕ} {q : Request} where
  pub drives_on : {R v c : ℕ} {steps : List ℕ} → R < 2 ^ most_riders → Finish network q R v steps c → DrivesOn network q R v steps c
  unfolding drives_of
  drives_on small (arrive e t z) = record { driving = 0; way = arrived t refl; paid = λ _. omega (arith, mul-zero (bus_weight_of q)) }
  drives_on small (meet {j = j} {steps = steps} d rest has walks f e) =
      let t = drives_on (omega arith) f in
      record {
        driving = t.driving;
        way = rw (drives_meet steps (meets_low small has)) t.way;
        paid = λ none. absurd (none_has j (rw none at has));
      }
  drives_on small (drive {steps = steps} k x w rest s link f e) =
      let t = drives_on small f in
      record {
        driving = w + t.driving;
        way = rw (drives_link steps s) (along x w t.driving link t.way refl);
        paid = λ none. omega (arith, t.paid none, mul-add (bus_weight_of q) w t.driving);
      }

  -- The riders of R are met once each, and others never.
  pub met_never : {R v c : ℕ} {steps : List ℕ} (j : ℕ) → j < first_drive → ¬ Has R j → Finish network q R v steps c → times_met j steps ≡ 0
  unfolding times_met
  met_never j rider lacks (arrive e t z) = refl
  met_never {R} j rider lacks (meet {j = i} {steps = steps} d rest has walks f e) =
      let other : i ≢ j = λ o. lacks (rw o at has) in
      times_other steps other ∙ met_never j rider (λ h. lacks ((without_others R i has j).0 h).0) f
  met_never j rider lacks (drive {step = step} {steps = steps} k x w rest s link f e) =
      times_other {step = step} steps (omega arith) ∙ met_never j rider lacks f

  pub met_once : {R v c : ℕ} {steps : List ℕ} (j : ℕ) → j < first_drive → Has R j → Finish network q R v steps c → times_met j steps ≡ 1
  met_once j rider h (arrive e t z) = absurd (none_has j (rw e at h))
  met_once {R} j rider h (meet {j = i} {steps = steps} d rest has walks f e) = elim (ℕ_discrete i j) [
    | yes same ↦ times_here steps same ∙ ap suc (met_never j rider (λ g. ((without_others R i has j).0 g).1 (sym same)) f)
    | no g ↦ times_other steps g ∙ met_once j rider ((without_others R i has j).1 (h, λ o. g (sym o))) f
  ]
  met_once j rider h (drive {step = step} {steps = steps} k x w rest s link f e) =
      times_other {step = step} steps (omega arith) ∙ met_once j rider h f

  -- As many steps of a finish are no drives as R has ones (3.1).
  pub met_count : {R v c : ℕ} {steps : List ℕ} → R < 2 ^ most_riders → Finish network q R v steps c
      → length steps ≡ ones R + length (drives_of steps)
  unfolding drives_of
  met_count small (arrive e t z) = rw (e, nobody)
  met_count {R} small (meet {j = j} {steps = steps} d rest has walks f e) =
      rw (drives_meet steps (meets_low small has)) (omega (arith, ones_without R j has, met_count (omega arith) f))
  met_count small (drive {steps = steps} k x w rest s link f e) = rw (drives_link steps s) (omega (arith, met_count small f))

  -- Rider j is met at a position of the route, and can walk to its node.
  pub met_there : {R v c : ℕ} {steps : List ℕ} (j : ℕ) → R < 2 ^ most_riders → Has R j → Finish network q R v steps c
      → (met_at j steps ≤ length (drives_of steps)) × ((d : ℕ) × RiderWalks network q j (node_at network v (drives_of steps) (met_at j steps)) d)
  met_there j small h f =
      let t = leave_out small h f in
      let rider = meets_low small h in
      rw (besides_drives rider t.besides, besides_at rider t.besides) (t.within, (t.distance, t.walks))

  -- The cost of a finish that meets the first l riders. By induction on l: leaving the last of them out keeps the drive steps, and the
  -- others where they were.
  pub met_cost : (l : ℕ) {v c driving : ℕ} {steps : List ℕ} (walking : ℕ → ℕ) → l ≤ most_riders → Finish network q (2 ^ l - 1) v steps c
      → Way (Drivable network) q.target v (drives_of steps) driving
      → ((j : ℕ) → j < l → RiderWalks network q j (node_at network v (drives_of steps) (met_at j steps)) (walking j))
      → c ≡ bus_weight_of q * driving + sum l (λ j. rider_weight_of q j * walking j)
  unfolding sum
  met_cost zero walking h f way walks =
      let t = drives_on (omega arith) f in
      rw (← way_sum t.way way) (omega (arith, t.paid refl))
  met_cost (suc l) {v} {c} {driving} walking h f way walks =
      let t = leave_out (few_sets h (omega (arith, pow_pos (suc l)))) ((all_have (suc l) l).1 (omega arith)) f in
      let rider : l < first_drive = omega arith in
      let drives = besides_drives rider t.besides in
      let rest = met_cost l walking (omega arith) (rw (first_without l) at t.finishes) (rw drives at way)
      (λ j g. rw (drives, besides_other rider {i = j} (omega arith) (omega arith) t.besides) at (walks j (omega arith))) in
      let same : t.distance ≡ walking l = rider_walks_unique t.walks (rw (drives, besides_at rider t.besides) at (walks l (omega arith))) in
      omega (arith, rest, rw same at t.costs)
