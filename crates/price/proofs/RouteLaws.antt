-- A route's checks, link by link, and the route that passes them.
use Prim.Native.Nat.{ℕ, zero, suc, ◌+◌, ◌<◌}
use native.Mathlib.Omega.{arith}
use native.Mathlib.Nat.{zero-add}
use native.Mathlib.Numerals.{add-one}
use mathlib.Core.Path.{◌≡◌, refl}
use mathlib.Core.List.{List, [], ◌∷◌}
use lib.ListN.{length, get_or}
use borrow.Author.Tests.{leb-false, ltb-false}
use Rattle.rules.specs.Checks.{first_of, each, Accepted}
use Rattle.rules.specs.Network.{SoundNetwork, node_count, to, drive}
use Rattle.rules.specs.Request.{SoundValue}
use Rattle.rules.specs.Walks.{Way, arrived, along}
use Rattle.rules.specs.Routes.{Drivable, node_at, sum, driven_link_checks, route_link_checks, route_checks}
use Rattle.rules.specs.declared.Request.{Request}
use Rattle.rules.proofs.Order.{accepted_head, accepted_front, accepted_rest, accepted_each}
use Rattle.rules.proofs.TestLaws.{same}
use Rattle.price.specs.Sound.{SoundRoute, driving_of}
use Rattle.price.specs.declared.drive.Drive.{Drive}

-- A link that passes its checks can be driven.
pub driven_link : (network : List ℕ) (stands k i : ℕ) → first_of (driven_link_checks network stands k i) ≡ Accepted
    → Drivable network k stands (to network k) (drive network k)
driven_link network stands k i e =
    let (a, e₁) = accepted_head _ _ e in
    let (b, e₂) = accepted_head _ _ e₁ in
    let (c, e₃) = accepted_head _ _ e₂ in
    record { exists = leb-false _ _ a; starts = same _ _ c; ends = refl; costs = refl; opened = leb-false _ _ b }

-- the node behind one link more
pub node_next : (network : List ℕ) (u : ℕ) (route : List ℕ) (i : ℕ) → i < length route
    → node_at network u route (i + 1) ≡ to network (get_or route i 0)
unfolding node_at
node_next network u [] i h = absurd (omega arith)
node_next network u (k ∷ route) zero h = refl
node_next network u (k ∷ route) (suc i) h = rw add-one (rw add-one at (node_next network (to network k) route i (omega arith)))

-- one more in a sum
pub sum_more : (count : ℕ) (f : ℕ → ℕ) → sum (count + 1) f ≡ sum count f + f count
unfolding sum
sum_more count f = rw add-one

-- the first of a sum taken out
sum_first : (count : ℕ) (f : ℕ → ℕ) → sum (suc count) f ≡ f 0 + sum count (λ i. f (suc i))
unfolding sum
sum_first zero f = omega arith
sum_first (suc count) f = omega (arith, sum_first count f)

-- Links that each start where the last ended lead to the last position's node. By induction on the route: the first link starts at
-- u, and the rest are such links from where it ends.
drive_way : (network : List ℕ) (u : ℕ) (route : List ℕ)
    → ((i : ℕ) → i < length route
    → Drivable network (get_or route i 0) (node_at network u route i) (to network (get_or route i 0)) (drive network (get_or route i 0)))
    → Way (Drivable network) (node_at network u route (length route)) u route (driving_of network route)
unfolding node_at sum
drive_way network u [] links = arrived refl refl
drive_way network u (k ∷ route) links =
    along (to network k) (drive network k) (driving_of network route) (links 0 (omega arith))
    (drive_way network (to network k) route (λ i h. links (suc i) (omega arith)))
    (sum_first (length route) (λ i. drive network (get_or (k ∷ route) i 0)))

-- A route that passes its checks is sound.
module _ (network : List ℕ) (q : Request) (route : List ℕ) where
  pub route_sound : SoundNetwork network → SoundValue (node_count network) q → first_of (route_checks network q route) ≡ Accepted
      → SoundRoute network q route
  unfolding route_checks
  route_sound sound value e =
      let (long, e₁) = accepted_head _ _ e in
      let links = accepted_each (route_link_checks network q route) (length route) 0 (accepted_front _ _ e₁) in
      let (last, e₂) = accepted_head _ _ (accepted_rest (each (route_link_checks network q route) (length route) 0) _ e₁) in
      let ends : node_at network q.source route (length route) ≡ q.target = same _ _ last in
      record {
        sound = sound;
        value = value;
        few = ltb-false _ _ long;
        drives = rw ends at (drive_way network q.source route (λ i h. driven_link network _ _ i (rw zero-add at (links i h))));
      }

pub drive_sound : (drive : Drive) → SoundRoute drive.job.now.network drive.job.now.request drive.links.now
drive_sound drive = route_sound _ _ _ drive.job.now.sound drive.job.now.fits drive.passes
