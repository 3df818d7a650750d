-- The steps of a finish, one by one.
use Prim.Native.Nat.{ℕ, ◌-◌}
use native.Mathlib.Omega.{arith}
use mathlib.Core.Path.{◌≡◌, ◌∙◌}
use mathlib.Core.List.{List, ◌∷◌}
use borrow.Author.Tests.{lt-ltb, le-ltb}
use Rattle.rules.specs.Limits.{first_drive, most_riders}
use Rattle.rules.specs.Network.{to}
use Rattle.rules.specs.Plans.{Finish, without, meet, drive}
use Rattle.rules.specs.Program.{node_after}
use Rattle.finish.proofs.Sets.{has_below, without_less}
use Rattle.lines.specs.Steps.{Takes, Rides}

module _ {network : List ℕ} {v step : ℕ} {steps : List ℕ} (rides : Rides network v (step ∷ steps)) where
  pub rides_takes : Takes network v step
  rides_takes = go rides.finish
    where
      go : Finish network rides.request rides.riders v (step ∷ steps) rides.cost → Takes network v step
      go (meet d rest has walks finish e) =
          let low = has_below rides.riders step most_riders rides.few has in
          record { sound = rides.sound; node = rides.node; meets = λ _. low; drives = λ high. absurd (omega arith) }
      go (drive k x w rest s leads finish e) =
          record {
            sound = rides.sound;
            node = rides.node;
            meets = λ low. absurd (omega arith);
            drives = λ high. omega (arith, leads.exists);
          }

  pub rides_on : Rides network (node_after network v step) steps
  rides_on = go rides.finish
    where
      go : Finish network rides.request rides.riders v (step ∷ steps) rides.cost → Rides network (node_after network v step) steps
      go (meet d rest has walks finish e) =
          let low = has_below rides.riders step most_riders rides.few has in
          let stays : node_after network v step ≡ v = simp (lt-ltb step first_drive (omega arith)) in
          record {
            sound = rides.sound;
            node = rw stays rides.node;
            request = rides.request;
            riders = without rides.riders step;
            cost = rest;
            few = omega (arith, without_less rides.riders step has, rides.few);
            finish = rw stays finish;
          }
      go (drive k x w rest s leads finish e) =
          let link : step - first_drive ≡ k = omega arith in
          let there : node_after network v step ≡ to network k = simp (le-ltb step first_drive (omega arith), link) in
          let goes : node_after network v step ≡ x = there ∙ leads.ends in
          record {
            sound = rides.sound;
            node = rw (goes, ← leads.ends) (rides.sound.ends k leads.exists);
            request = rides.request;
            riders = rides.riders;
            cost = rest;
            few = rides.few;
            finish = rw goes finish;
          }
