-- Distances that pass their test are the walking distances.
use Prim.Native.Nat.{ℕ, zero, suc, ◌<◌}
use mathlib.Core.Path.{refl}
use mathlib.Core.Logic.{inl, inr, ⊎_elim}
use mathlib.Core.List.{List}
use native.Mathlib.Omega.{arith}
use Rattle.rules.specs.Network.{SoundNetwork, node_count, link_count, from, to, walk}
use Rattle.rules.specs.Walks.{Walkable, HoldsDistance}
use Rattle.rules.proofs.WalkLaws.{walk_along, walk_back, walk_costs, walk_either, walk_exists}
use Rattle.least.specs.Trips.{done, step}
use Rattle.least.specs.WalkTrips.{WalkTrip}
use Rattle.least.proofs.Trips.{fixpoint}
use Rattle.least.proofs.WalkTrips.{inside, distance}
use Rattle.cases.proofs.Tests.{Test, Says}
use Rattle.cases.proofs.Certificate.{each_way, some_way, last_link, walked_within, no_shorter, distances_test}

-- A test of each way to walk a link holds of the way that it is walked, and a test of some way holds of a way to walk it.
module _ {network : List ℕ} {k : ℕ} (test : ℕ → ℕ → Test) where
  each_way_says : {u v w : ℕ} → Says (each_way network k test) → Walkable network k u v w → Says (test u v)
  each_way_says tested link = walk_either (λ u v. Says (test u v)) (λ exists opened. tested opened) link

  some_way_says : k < link_count network → Says (some_way network k test) → (u v : ℕ) × Walkable network k u v (walk network k) × Says (test u v)
  some_way_says exists (opened, tested) =
      let link = walk_along (record { exists = exists; starts = refl; ends = refl; costs = refl; opened = opened }) in
      ⊎_elim (λ there. (from network k, to network k, link, there)) (λ back. (to network k, from network k, walk_back link, back)) tested

module _ {network : List ℕ} (sound : SoundNetwork network) {start : ℕ} {d : ℕ → ℕ} (tested : Says (distances_test network start d)) where
  -- Links that make up the distances, back to the start, are a walk. By induction on the most that there are.
  walked_back : (most v : ℕ) → Says (walked_within network start d most v) → WalkTrip network start v (d v)
  unfolding walked_within
  walked_back zero v here = done {sum = d v} (here, rw here tested.0)
  walked_back (suc most) v (inl here) = done {sum = d v} (here, rw here tested.0)
  walked_back (suc most) v (inr (k, exists, some)) =
      let (u, x, link, ((ends, makes), rest)) = some_way_says (last_link network d v (walked_within network start d most) k) exists some in
      step u (walk network k) (d u) (k, walk_back (rw ends at link)) (walked_back most u rest) makes

  pub distances_hold : {v : ℕ} → v < node_count network → HoldsDistance network start v (d v)
  distances_hold {v} h =
      distance sound h
      (fixpoint (inside sound) {T = d}
      (λ u g. record {
        capped = (tested.1.1 u g).0;
        started = λ c (here, free). rw (here, free, tested.0) (omega arith);
        met = λ far. walked_back (node_count network) u ((tested.1.1 u g).1 far);
      })
      (λ u x w g i (k, l). rw (← walk_costs l) (each_way_says (no_shorter network d k) (tested.1.0 k (walk_exists l)) (walk_back l)))
      v h)
