-- A packed finish is a trip over drive arcs to where it ends or meets its first rider. Why the least packed sum is least in cost
-- and then in steps: `least_holds` (Bounds).
use Prim.Native.Nat.{ℕ, ◌*◌}
use mathlib.Core.Path.{◌≡◌, refl}
use mathlib.Core.Logic.{inl, inr, ◌↔◌}
use mathlib.Core.List.{List, [], ◌∷◌}
use native.Mathlib.Omega.{arith}
use lib.ListN.{length}
use Rattle.rules.specs.Limits.{pack, packed_step}
use Rattle.rules.specs.Plans.{Finish, arrive, meet, drive, drive_step}
use Rattle.rules.specs.declared.Request.{Request}
use Rattle.rules.specs.Request.{bus_weight_of}
use Rattle.least.specs.Trips.{Trip, done, step}
use Rattle.finish.specs.Packed.{Packed, DriveArc, Ends}

module _ {network : List ℕ} {q : Request} where
  pub packed : {R v cost : ℕ} {steps : List ℕ} → Finish network q R v steps cost → Packed network q R v (pack cost (length steps))
  packed {cost = cost} {steps = steps} f = record { steps = steps; cost = cost; finishes = f; packs = refl }

  finish_trip : {R v cost x : ℕ} {steps : List ℕ} → Finish network q R v steps cost → x ≡ pack cost (length steps)
      → Trip (DriveArc network (bus_weight_of q)) (Ends network q R) v x
  finish_trip {x = x} (arrive none here free) packs = done {sum = x} (inl (none, here, omega arith))
  finish_trip {x = x} (meet {j = j} d rest has walks f e) packs =
      done {sum = x} (inr (j, record { distance = d; rest = _; has = has; walks = walks; finishes = packed f; packs = omega arith }))
  finish_trip {x = x} (drive k y w rest s leads f e) packs =
      step {sum = x} y (packed_step (bus_weight_of q * w)) _ (k, record { cost = w; leads = leads; packs = refl }) (finish_trip f refl) (omega arith)

  trip_finish : {R v x : ℕ} → Trip (DriveArc network (bus_weight_of q)) (Ends network q R) v x → Packed network q R v x
  trip_finish (done (inl i)) = record { steps = []; cost = 0; finishes = arrive i.0 i.1 refl; packs = i.2 }
  trip_finish (done (inr (j, m))) =
      record {
        steps = j ∷ m.finishes.steps;
        cost = _;
        finishes = meet m.distance m.finishes.cost m.has m.walks m.finishes.finishes refl;
        packs = omega arith;
      }
  trip_finish (step y w rest (k, a) t e) =
      let f = trip_finish t in
      record {
        steps = drive_step k ∷ f.steps;
        cost = _;
        finishes = drive k y a.cost f.cost refl a.leads f.finishes refl;
        packs = omega arith;
      }

  -- By induction on the finish, and on the trip: to drive is an arc, to arrive or to meet a rider is to be done.
  pub packed_trip : {R v x : ℕ} → Packed network q R v x ↔ Trip (DriveArc network (bus_weight_of q)) (Ends network q R) v x
  packed_trip = (λ p. finish_trip p.finishes p.packs, trip_finish)
