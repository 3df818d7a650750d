-- Every finish has one of few steps.
use Prim.Native.Nat.{ℕ, ◌+◌, ◌-◌, ◌*◌, ◌≤◌, ◌<◌}
use mathlib.Core.Path.{◌≡◌, refl}
use mathlib.Core.List.{List, ◌∷◌}
use native.Mathlib.Nat.{add-mul, le_refl}
use native.Mathlib.Omega.{arith}
use lib.Count.{ones}
use lib.ListN.{length}
use Rattle.rules.specs.Network.{SoundNetwork, node_count}
use Rattle.rules.specs.Plans.{Finish, arrive, meet, drive, drive_step}
use Rattle.rules.specs.Routes.{Drivable}
use Rattle.rules.specs.declared.Request.{Request}
use Rattle.rules.proofs.WalkLaws.{leads_joins}
use Rattle.rules.specs.Request.{bus_weight_of}
use Rattle.least.specs.Trips.{Trip, done, step, arc_count, Inside}
use Rattle.least.proofs.Shortening.{shortened}
use Rattle.finish.specs.Short.{ShortFinish}
use Rattle.finish.proofs.Sets.{ones_without}

-- To drive from v to x costs w.
record Drive (network : List ℕ) (q : Request) (v x w : ℕ) : Type 0 where
  link : ℕ
  cost : ℕ
  leads : Drivable network link v x cost
  costs : w ≡ bus_weight_of q * cost

-- A finish of so many steps.
record FinishOf (network : List ℕ) (q : Request) (R count v cost : ℕ) : Type 0 where
  steps : List ℕ
  finishes : Finish network q R v steps cost
  size : length steps ≡ count

-- A stretch of drives, and then a finish of few steps.
record Stretch (network : List ℕ) (q : Request) (R v most count : ℕ) : Type 0 where
  rest : ℕ
  sum : ℕ
  trip : Trip (Drive network q) (FinishOf network q R rest) v sum
  cheap : sum ≤ most
  fewer : arc_count trip + rest ≤ count
  short : rest ≤ ones R + ones R * (node_count network - 1)

module _ {network : List ℕ} {q : Request} where
  joined : {R rest v sum : ℕ} (t : Trip (Drive network q) (FinishOf network q R rest) v sum)
      → FinishOf network q R (arc_count t + rest) v sum
  unfolding arc_count
  joined (done i) = record { steps = i.steps; finishes = i.finishes; size = omega arith }
  joined {sum = sum} (step x w rest a t e) =
      let f = joined t in
      record {
        steps = drive_step a.link ∷ f.steps;
        finishes = drive {c = sum} a.link x a.cost rest refl a.leads f.finishes (omega arith);
        size = omega arith;
      }

  module _ (sound : SoundNetwork network) where
    inside : Inside (node_count network) (Drive network q)
    inside u v w h a = (leads_joins sound a.leads).end

    -- The stretch is shortened to fewer than n drives.
    short : {R v most count : ℕ} → v < node_count network → Stretch network q R v most count → ShortFinish network q R v most count
    short {R} h s =
        let t = shortened inside h s.trip in
        let f = joined t.trip in
        record {
          steps = f.steps;
          cost = t.sum;
          finishes = f.finishes;
          cheap = omega arith;
          fewer = omega arith;
          short = omega (arith, add-mul (ones R) 1 (node_count network - 1));
        }

    stopped : {R v cost most count : ℕ} {steps : List ℕ} → Finish network q R v steps cost → cost ≤ most → length steps ≤ count
        → length steps ≤ ones R + ones R * (node_count network - 1) → Stretch network q R v most count
    unfolding arc_count
    stopped {cost = cost} {steps = steps} f cheap fewer short =
        record {
          rest = length steps;
          sum = cost;
          trip = done (record { steps = steps; finishes = f; size = refl });
          cheap = cheap;
          fewer = omega arith;
          short = short;
        }

    stretch : {R v cost : ℕ} {steps : List ℕ} → v < node_count network → Finish network q R v steps cost
        → Stretch network q R v cost (length steps)
    unfolding arc_count
    stretch h (arrive none here free) = stopped (arrive none here free) (le_refl _) (le_refl 0) (omega arith)
    stretch {R} h (meet {j = j} d rest has walks f e) =
        let r = short h (stretch h f) in
        stopped (meet d r.cost has walks r.finishes refl) (omega arith) (omega arith)
        (omega (arith, ones_without R j has, rw (ones_without R j has) at r.short))
    stretch h (drive k x w rest s leads f e) =
        let r = stretch (leads_joins sound leads).end f in
        record {
          rest = r.rest;
          sum = bus_weight_of q * w + r.sum;
          trip = step x _ r.sum (record { link = k; cost = w; leads = leads; costs = refl }) r.trip refl;
          cheap = omega arith;
          fewer = omega arith;
          short = r.short;
        }

    -- For every finish from a node there is a short one, of |R| + (|R| + 1) * (n - 1) steps or fewer, that neither costs more nor
    -- takes more steps. By induction, cutting the finish at its first meeting: behind it one rider less is to be met, so that part has
    -- a short one; the drives up to it are a trip, and a trip has one of fewer than n arcs.
    pub shorter : {R v cost : ℕ} {steps : List ℕ} → v < node_count network → Finish network q R v steps cost
        → ShortFinish network q R v cost (length steps)
    shorter h f = short h (stretch h f)
