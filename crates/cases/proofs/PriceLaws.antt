-- A route that passes its test has that price and those meeting positions.
use Prim.Native.Nat.{ℕ, ◌<◌}
use mathlib.Core.Path.{◌≡◌, refl}
use mathlib.Core.Logic.{inl}
use mathlib.Core.List.{List, [], ◌∷◌}
use lib.ListN.{get_or}
use native.Mathlib.Omega.{arith}
use Rattle.rules.specs.Network.{node_count, to, drive, SoundNetwork}
use Rattle.rules.specs.Request.{SoundValue, rider_count_of}
use Rattle.rules.specs.Walks.{Way, arrived, along}
use Rattle.rules.specs.Routes.{Drivable, Route, RiderWalks, RiderHolds, node_at, Meeting, Price}
use Rattle.rules.specs.declared.Request.{Request}
use Rattle.rules.proofs.RiderLaws.{rider_holds_unique, held_walks}
use Rattle.rules.proofs.RouteLaws.{way_known, node_below}
use Rattle.cases.proofs.Tests.{Says}
use Rattle.cases.proofs.Certificate.{route_test, drive_sum, walk_to, meeting_test, price_test}
use Rattle.cases.proofs.MoveLaws.{DistancesHold}

route_way : {network : List ℕ} {target v : ℕ} (route : List ℕ) → Says (route_test network target v route)
    → Way (Drivable network) target v route (drive_sum network route)
unfolding route_test drive_sum
route_way [] here = arrived here refl
route_way {network} (k ∷ route) ((exists, (starts, opened)), rest) =
    along (to network k) (drive network k) _ (record { exists = exists; starts = starts; ends = refl; costs = refl; opened = opened })
    (route_way {v = to network k} route rest)
    refl

module _ {network : List ℕ} {q : Request} {D : ℕ → ℕ → ℕ}
    (sound : SoundNetwork network) (value : SoundValue (node_count network) q) (walking : DistancesHold network q D) (route : List ℕ) where
  tested_meeting : (j : ℕ) {position driving : ℕ} → j < rider_count_of q → Route network q route driving
      → Says (meeting_test network q D route j position) → Meeting network q route j position (walk_to network q D route j position)
  tested_meeting j {position} h way ((within, far), (least, earliest)) =
      record {
        within = within;
        walks = held_walks (held position) (omega arith);
        least = λ other e less walks. rw (told other walks) (least other (omega arith));
        earliest = λ other less walks. omega (arith, told other walks, earliest other less);
      }
    where
      held : (p : ℕ) → RiderHolds network q j (node_at network q.source route p) (walk_to network q D route j p)
      held p = walking j _ h (node_below route sound value.starts (way_known way) p)

      told : (p : ℕ) {e : ℕ} → RiderWalks network q j (node_at network q.source route p) e → e ≡ walk_to network q D route j p
      told p walks = rider_holds_unique (inl walks) (held p)

  pub tested_price : (meetings : List ℕ) {price : ℕ} → Says (price_test network q D route meetings price)
      → Price network q route meetings price
  tested_price meetings (legal, (met, adds)) =
      record {
        driving = drive_sum network route;
        walking = λ j. walk_to network q D route j (get_or meetings j 0);
        drives = route_way route legal;
        meets = λ j h. tested_meeting j h (route_way route legal) (met j h);
        adds = adds;
      }
