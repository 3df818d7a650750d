-- A table that passes its test has the least packed values, and the steps that pass theirs are the right plan.
use Prim.Native.Nat.{ℕ, zero, suc, ◌+◌, ◌/◌, ◌^◌, ◌<◌, ◌≤◌}
use mathlib.Core.Path.{refl}
use mathlib.Core.Logic.{inl, inr}
use mathlib.Core.List.{List, [], ◌∷◌, ◌++◌, append-nil, append_assoc}
use lib.ListN.{length}
use native.Mathlib.Decide.{dec_lt}
use native.Mathlib.Omega.{arith}
use Rattle.rules.specs.Limits.{step_range, pack, packed_step}
use Rattle.rules.specs.Network.{node_count, SoundNetwork}
use Rattle.rules.specs.Request.{SoundValue, rider_count_of}
use Rattle.rules.specs.Plans.{Finish, arrive, meet, drive, RightPlan}
use Rattle.rules.specs.Rooms.{no_finish}
use Rattle.rules.specs.declared.Request.{Request}
use Rattle.rules.proofs.WalkLaws.{leads_joins}
use Rattle.rules.proofs.PlanLaws.{few_sets}
use Rattle.finish.specs.Packed.{Packed}
use Rattle.right.specs.Reading.{Tabled, Step, meets, drives, NextStep, plan_value, Reading}
use Rattle.right.proofs.Steps.{meets_low}
use Rattle.right.proofs.Reading.{go_on, step_inside, reading_next, reading_done}
use Rattle.cases.proofs.Tests.{Says}
use Rattle.cases.proofs.Certificate.{Move, move, onward, step_numbers, table_test, reads_test}
use Rattle.cases.proofs.MoveLaws.{DistancesHold, step_move, move_step}

-- The numbers of a network's steps.
step_number : {network : List ℕ} {q : Request} {R v step S x c : ℕ} → SoundValue (node_count network) q → R < 2 ^ rider_count_of q
    → Step network q R v step S x c → step < step_numbers network
step_number value small (meets _ has _ _ _ _) = omega (arith, meets_low (few_sets value.riders small) has)
step_number value small (drives k _ e link _ _) = omega (arith, link.exists)

module _ {network : List ℕ} {q : Request} {D T : ℕ → ℕ → ℕ}
    (sound : SoundNetwork network) (value : SoundValue (node_count network) q) (walking : DistancesHold network q D)
    (tested : Says (table_test network q D T)) where
  -- No step undercuts a value.
  none_undercuts : {R v step S x c : ℕ} → R < 2 ^ rider_count_of q → v < node_count network → Step network q R v step S x c
      → T R v ≤ packed_step c + T S x
  none_undercuts {R} {v} {step} small h s =
      let goes = step_move sound value walking small h s in
      rw (goes.set, goes.node, goes.cost) ((tested R small v h).1.0 step (step_number value small s) goes.allowed)

  -- By induction on the finish.
  lowest : {R v cost : ℕ} {steps : List ℕ} → R < 2 ^ rider_count_of q → v < node_count network → Finish network q R v steps cost
      → T R v ≤ pack cost (length steps)
  lowest {R} {v} small h (arrive none here free) = omega (arith, (tested R small v h).0.1 (none, here))
  lowest small h (meet d rest has walks f e) =
      omega (arith, none_undercuts small h (meets d has walks refl refl refl), lowest (omega arith) h f)
  lowest small h (drive k x w rest s leads f e) =
      omega (arith, none_undercuts small h (drives k w s leads refl refl), lowest small (leads_joins sound leads).end f)

  -- Every step takes at least 1, so the value falls until all is done.
  finished : (fuel R v : ℕ) → R < 2 ^ rider_count_of q → v < node_count network → T R v < fuel → T R v < no_finish
      → Packed network q R v (T R v)
  finished zero R v small h less far = absurd (omega arith)
  finished (suc fuel) R v small h less far = elim ((tested R small v h).1.1 far) [
    | inl here ↦ record { steps = []; cost = 0; finishes = arrive here.0 here.1 refl; packs = (tested R small v h).0.1 here }
    | inr (step, g, (allowed, makes)) ↦ (
        let s = move_step sound value walking small h step allowed in
        let (i, j) = step_inside sound s small h in
        let m = move network q D R v step in
        let rest = finished fuel m.set m.node i j (omega (arith, makes)) (omega (arith, makes)) in
        record { steps = step ∷ rest.steps; cost = _; finishes = go_on s rest.finishes; packs = omega (arith, makes, rest.packs) }
        )
  ]

  pub tabled : Tabled network q T
  tabled R v small h =
      record {
        capped = (tested R small v h).0.0;
        lowest = λ x p. rw p.packs (lowest small h p.finishes);
        met = finished (suc (T R v)) R v small h (omega arith);
      }

  pub reads_right : (steps : List ℕ) {written : List ℕ} {R v : ℕ} → Reading network q T written R v
      → Says (reads_test network q D T R v steps) → RightPlan network q (written ++ steps) (plan_value q T / step_range)
  unfolding reads_test
  reads_right [] {written} r e = rw (append-nil written) (reading_done sound value tabled r e).0
  reads_right (step ∷ steps) {written} {R} {v} r ((here, lower), there) =
      rw (← append_assoc written (step ∷ []) steps) (reads_right steps (reading_next sound value tabled r next) there)
    where
      m : Move
      m = move network q D R v step

      next : NextStep network q T R v step m.set m.node
      next =
          record {
            tight = record { cost = _; leads = move_step sound value walking r.set r.node step here.0; tight = here.1 };
            lowest = λ other S x t. elim (dec_lt other step) [
              | yes l ↦ (
                  let goes = step_move sound value walking r.set r.node t.leads in
                  let more : T R v < onward network q D T R v other = lower other l goes.allowed in
                  absurd (omega (arith, rw (goes.set, goes.node, goes.cost) at t.tight))
                  )
              | no l ↦ omega arith
            ];
          }
