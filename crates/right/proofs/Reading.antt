-- The lowest tight steps, one after the other, are the right plan.
use Prim.Native.Nat.{ℕ, suc, ◌+◌, ◌/◌, ◌%◌, ◌^◌, ◌<◌, ◌≤◌}
use mathlib.Core.Path.{◌≡◌, refl, ap}
use mathlib.Core.Logic.{inl, inr}
use mathlib.Core.List.{List, [], ◌∷◌, ◌++◌, append-nil, append_assoc}
use lib.ListN.{length, length-append}
use native.Mathlib.Decide.{dec_lt}
use native.Mathlib.Omega.{arith}
use Rattle.rules.specs.Limits.{most_riders, step_range, pack, packed_step}
use Rattle.rules.specs.Network.{node_count, SoundNetwork}
use Rattle.rules.specs.Request.{SoundValue, rider_count_of}
use Rattle.rules.specs.Plans.{all_riders, Finish, arrive, meet, drive, NoLater, Best, RightPlan}
use Rattle.rules.specs.Rooms.{no_finish, HasFinish}
use Rattle.rules.specs.declared.Request.{Request}
use Rattle.rules.proofs.WalkLaws.{leads_joins}
use Rattle.rules.proofs.PlanLaws.{all_riders_below, few_sets}
use Rattle.finish.proofs.Packing.{packed}
use Rattle.finish.proofs.Bounds.{least_holds, best_bounded}
use Rattle.right.specs.Reading.{Tabled, Step, meets, drives, Tight, NextStep, First, plan_value, Reading}
use Rattle.right.proofs.Steps.{meets_low}

-- A finish taken apart into its first step and the finish behind it.
record Begun (network : List ℕ) (q : Request) (R v step : ℕ) (steps : List ℕ) (cost : ℕ) : Type 0 where
  S : ℕ
  x : ℕ
  here : ℕ
  rest : ℕ
  leads : Step network q R v step S x here
  finishes : Finish network q S x steps rest
  costs : cost ≡ here + rest

module _ {network : List ℕ} {q : Request} where
  begun : {R v step c : ℕ} {steps : List ℕ} → Finish network q R v (step ∷ steps) c → Begun network q R v step steps c
  begun (meet d rest has walks f e) =
      record { leads = meets d has walks refl refl refl; finishes = f; costs = e; S = _; x = _; here = _; rest = _ }
  begun (drive k x w rest s link f e) =
      record { leads = drives k w s link refl refl; finishes = f; costs = e; S = _; x = _; here = _; rest = _ }

  pub go_on : {R v step S x c rest : ℕ} {steps : List ℕ} → Step network q R v step S x c → Finish network q S x steps rest
      → Finish network q R v (step ∷ steps) (c + rest)
  go_on {rest = rest} (meets d has walks s x e) f = meet d rest has walks (rw (s, x) at f) (ap (λ (c : ℕ). c + rest) e)
  go_on {x = x} {rest = rest} (drives k w s link r e) f = drive k x w rest s link (rw r at f) (ap (λ (c : ℕ). c + rest) e)

  -- One step leads to one place.
  step_same : {R v step S x c Q y d : ℕ} → R < 2 ^ most_riders → Step network q R v step S x c → Step network q R v step Q y d
      → (S ≡ Q) × (x ≡ y)
  step_same small (meets _ _ _ s x _) (meets _ _ _ t y _) = (cc, cc)
  step_same small (meets _ has _ _ _ _) (drives k _ e _ _ _) = absurd (omega (arith, meets_low small has))
  step_same small (drives k _ e _ _ _) (meets _ has _ _ _ _) = absurd (omega (arith, meets_low small has))
  step_same small (drives k _ e link s _) (drives l _ f other t _) = let same : k ≡ l = omega arith in (cc, cc)

  module _ (sound : SoundNetwork network) where
    pub step_inside : {R v step S x c : ℕ} → Step network q R v step S x c → R < 2 ^ rider_count_of q → v < node_count network
        → (S < 2 ^ rider_count_of q) × (x < node_count network)
    step_inside (meets _ _ _ s x _) h g = (omega arith, omega arith)
    step_inside (drives k _ _ link s _) h g = (omega arith, (leads_joins sound link).end)

    module _ (value : SoundValue (node_count network) q) {T : ℕ → ℕ → ℕ} (table : Tabled network q T) where
      module _ {R v : ℕ} (h : R < 2 ^ rider_count_of q) (g : v < node_count network) where
        -- No step with the value where it leads undercuts the value here.
        relaxed : {step S x c : ℕ} → Step network q R v step S x c → T R v ≤ packed_step c + T S x
        relaxed {step} {S} {x} {c} s = elim (dec_lt (T S x) no_finish) [
          | yes l ↦ (
              let (i, j) = step_inside s h g in
              let p = (table S x i j).met l in
              omega (arith, (table R v h g).lowest _ (packed (go_on s p.finishes)), p.packs)
              )
          | no l ↦ omega (arith, (table R v h g).capped)
        ]

        -- The first step of a finish of the value here is tight, and what follows has the value where it leads.
        begun_tight : {step c : ℕ} {steps : List ℕ} → T R v ≡ pack c (suc (length steps)) → (o : Begun network q R v step steps c)
            → Tight network q T R v step o.S o.x × (T o.S o.x ≡ pack o.rest (length steps))
        begun_tight {steps = steps} e o =
            let (i, j) = step_inside o.leads h g in
            let low = (table o.S o.x i j).lowest _ (packed o.finishes) in
            let high = relaxed o.leads in
            (record { cost = o.here; leads = o.leads; tight = omega arith }, omega arith)

        -- The value is 0 only where all is done.
        value_zero : T R v ≡ 0 → (R ≡ 0) × (v ≡ q.target)
        value_zero e = let p = (table R v h g).met (omega arith) in empty p.steps p.finishes (omega (arith, p.packs))
          where
            empty : {c : ℕ} (steps : List ℕ) → Finish network q R v steps c → length steps ≡ 0 → (R ≡ 0) × (v ≡ q.target)
            empty [] (arrive r t z) e = (r, t)
            empty (s ∷ steps) f e = absurd (omega arith)

        -- Where a value is neither none nor 0, some step is tight: the first of a finish of this value.
        pub some_tight : T R v < no_finish → 0 < T R v → (step S x : ℕ) × Tight network q T R v step S x
        some_tight l some = let p = (table R v h g).met l in start p.steps p.finishes p.packs
          where
            start : {c : ℕ} (steps : List ℕ) → Finish network q R v steps c → T R v ≡ pack c (length steps)
                → (step S x : ℕ) × Tight network q T R v step S x
            start [] (arrive r t z) e = absurd (omega arith)
            start (s ∷ steps) f e = let o = begun f in (s, o.S, o.x, (begun_tight e o).0)

        first_done : T R v ≡ 0 → First network q R v (T R v) []
        unfolding NoLater
        first_done e =
            let (r, t) = value_zero e in
            record { cost = 0; finishes = arrive r t refl; packs = e; first = λ other c f same. tt }

        -- The lowest tight step, in front of what finishes first from where it leads, finishes first from here. Any other finish of
        -- the value here starts with a tight step, so with no lower one. If with a higher one, it comes later. If with the same, then
        -- what follows has the value where the step leads, and comes no earlier than what finishes first from there.
        first_next : {step S x : ℕ} {steps : List ℕ} → NextStep network q T R v step S x → First network q S x (T S x) steps
            → First network q R v (T R v) (step ∷ steps)
        unfolding NoLater
        first_next {step} {S} {x} {steps} next behind =
            record {
              cost = next.tight.cost + behind.cost;
              finishes = go_on next.tight.leads behind.finishes;
              packs = omega (arith, next.tight.tight, behind.packs);
              first = first;
            }
          where
            behind_step : {s c : ℕ} {other : List ℕ} → T R v ≡ pack c (suc (length other)) → Begun network q R v s other c
                → NoLater (step ∷ steps) (s ∷ other)
            behind_step {s} {other = other} e o =
                let (tight, rest) = begun_tight e o in
                elim (dec_lt step s) [
                  | yes l ↦ inl l
                  | no l ↦ (
                      let same : step ≡ s = omega (arith, next.lowest s o.S o.x tight) in
                      let (a, b) = step_same (few_sets value.riders h) next.tight.leads (rw (← same) at o.leads) in
                      inr (same, behind.first other o.rest (rw (← a, ← b) at o.finishes) (rw (← a, ← b) at rest))
                      )
                ]

            first : (other : List ℕ) (c : ℕ) → Finish network q R v other c → T R v ≡ pack c (length other) → NoLater (step ∷ steps) other
            first [] c (arrive r t z) e = absurd (omega (arith, next.tight.tight))
            first (s ∷ other) c f e = behind_step e (begun f)

        best_finish : T R v < no_finish → (b : HasFinish network q R v (T R v)) × (length b.steps < step_range)
        best_finish l = elim (least_holds sound value h g (table R v h g)) [
          | inl b ↦ (b, (best_bounded sound value h g b.best).few)
          | inr none ↦ absurd (omega arith)
        ]

      tight_count : {R v step S x : ℕ} → R < 2 ^ rider_count_of q → v < node_count network → T R v < no_finish → Tight network q T R v step S x
          → T R v % step_range ≡ suc (T S x % step_range)
      tight_count {step = step} h g l t =
          let (i, j) = step_inside t.leads h g in
          let (here, few) = best_finish h g l in
          let (there, short) = best_finish i j (omega (arith, t.tight)) in
          let cheap = here.best.cheapest (step ∷ there.steps) (t.cost + there.cost) (go_on t.leads there.best.finishes) in
          omega (arith, t.tight, here.packs, there.packs)

      -- What finishes first from the source is the right plan. A best plan has the same value and few steps, and is not dearer, so the
      -- two cost the same and have as many steps.
      first_right : {steps : List ℕ} → First network q (all_riders q) q.source (plan_value q T) steps
          → RightPlan network q steps (plan_value q T / step_range) × (plan_value q T % step_range ≡ length steps)
      first_right {steps} f =
          elim (least_holds sound value (all_riders_below q) value.starts (table (all_riders q) q.source (all_riders_below q) value.starts)) [
            | inl b ↦ (
                let few = (best_bounded sound value (all_riders_below q) value.starts b.best).few in
                let cheap = b.best.cheapest steps f.cost f.finishes in
                let same : f.cost ≡ b.cost = omega (arith, f.packs, b.packs) in
                let cost : plan_value q T / step_range ≡ f.cost = omega (arith, f.packs, b.packs) in
                let best : Best network q (all_riders q) q.source steps f.cost = record {
                  finishes = f.finishes;
                  cheapest = λ other c g. omega (arith, b.best.cheapest other c g);
                  fewest = λ other g. omega (arith, b.best.fewest other (rw same at g), f.packs, b.packs);
                } in (
                  rw cost (record { best = best; first = λ other g l. f.first other f.cost g (omega (arith, f.packs)) }),
                  omega (arith, f.packs, b.packs),
                )
                )
            | inr none ↦ absurd (none.0 steps f.cost f.finishes)
          ]

      pub reading_start : plan_value q T < no_finish → Reading network q T [] (all_riders q) q.source
      reading_start l = record { set = all_riders_below q; node = value.starts; finite = l; continues = λ steps first. first; left = omega arith }

      pub reading_next : {written : List ℕ} {R v step S x : ℕ} → Reading network q T written R v → NextStep network q T R v step S x
          → Reading network q T (written ++ step ∷ []) S x
      reading_next {written} {step = step} r next =
          let (i, j) = step_inside next.tight.leads r.set r.node in
          record {
            set = i;
            node = j;
            finite = omega (arith, r.finite, next.tight.tight);
            continues = λ steps first. rw append_assoc (r.continues (step ∷ steps) (first_next r.set r.node next first));
            left = omega (arith, r.left, tight_count r.set r.node r.finite next.tight, length-append written (step ∷ []));
          }

      -- Before a step is written, fewer are than the plan has.
      pub reading_room : {written : List ℕ} {R v : ℕ} → Reading network q T written R v → 0 < T R v
          → length written < plan_value q T % step_range
      reading_room r some =
          let (step, S, x, tight) = some_tight r.set r.node r.finite some in
          omega (arith, r.left, tight_count r.set r.node r.finite tight)

      -- Where the value is 0, the steps written are the right plan. They finish first from the source.
      pub reading_done : {written : List ℕ} {R v : ℕ} → Reading network q T written R v → T R v ≡ 0
          → RightPlan network q written (plan_value q T / step_range) × (plan_value q T % step_range ≡ length written)
      reading_done {written} r e = first_right (rw (append-nil written) at (r.continues [] (first_done r.set r.node e)))
