-- The nearest position, one position after the other, and what it is to the rider.
use Prim.Native.Nat.{ℕ, ◌+◌, ◌≤◌, ◌<◌}
use native.Mathlib.Omega.{arith}
use mathlib.Core.Path.{◌≡◌, refl}
use mathlib.Core.Logic.{◌≢◌, inl}
use mathlib.Core.Bool.{Bool, true, false, cond}
use mathlib.Core.List.{List}
use lib.Dec.{ltb}
use borrow.Author.Count.{below_more}
use borrow.Author.Tests.{ltb-true, ltb-false}
use Rattle.rules.specs.Network.{node_count}
use Rattle.rules.specs.Walks.{no_distance}
use Rattle.rules.specs.Routes.{node_at, RiderWalks, Meeting, Stranded}
use Rattle.rules.specs.declared.Request.{Request}
use Rattle.rules.proofs.RiderLaws.{rider_holds_unique, held_walks}
use Rattle.rules.proofs.RouteLaws.{way_known, node_below}
use Rattle.finish.proofs.Bounds.{rider_bounded}
use Rattle.price.specs.Sound.{SoundRoute}
use Rattle.price.specs.Near.{Sofar, Nearest, closer_of}
use Rattle.price.specs.declared.riders.Spot.{Spot}

pub sofar_first : (value : ℕ → ℕ) {d : ℕ} → d ≡ value 0 → Sofar value 1 (record { position = 0; distance = d })
sofar_first value e =
    record {
      within = omega arith;
      stands = e;
      least = λ other h. (let z : other ≡ 0 = omega arith in rw z (omega arith));
      earliest = λ other h. absurd (omega arith);
    }

pub sofar_more : (value : ℕ → ℕ) (count : ℕ) (spot : Spot) {d : ℕ} → Sofar value count spot → d ≡ value count
    → Sofar value (count + 1) (closer_of spot count d)
sofar_more value count spot {d} so e = go (ltb d spot.distance) refl
  where
    go : (b : Bool) → ltb d spot.distance ≡ b
        → Sofar value (count + 1) (cond b (record { position = count; distance = d }) spot)
    go true t =
        let nearer = ltb-true d spot.distance t in
        record {
          within = omega arith;
          stands = e;
          least = below_more (λ (other : ℕ). d ≤ value other) count (λ other h. omega (arith, so.least other h)) (omega arith);
          earliest = λ other h. omega (arith, so.least other h);
        }
    go false t =
        let farther = ltb-false d spot.distance t in
        record {
          within = omega (arith, so.within);
          stands = so.stands;
          least = below_more (λ (other : ℕ). spot.distance ≤ value other) count so.least (omega arith);
          earliest = so.earliest;
        }

-- Every position's node is one of the network.
pub position_below : {network : List ℕ} {q : Request} {route : List ℕ} → SoundRoute network q route → (position : ℕ)
    → node_at network q.source route position < node_count network
position_below {route = route} may = node_below route may.sound may.value.starts (way_known may.drives)

module _ {network : List ℕ} {q : Request} {j : ℕ} {route : List ℕ} {spot : Spot} (so : Nearest network q j route spot) where
  -- A distance that rider j walks is what stands at the place.
  placed : (position : ℕ) {d : ℕ} → RiderWalks network q j (node_at network q.source route position) d → so.place position ≡ d
  placed position walks = rider_holds_unique (so.holds position) (inl walks)

  -- The nearest position, where it can be walked to, is the meeting position.
  pub near_meets : spot.distance ≢ no_distance → Meeting network q route j spot.position spot.distance
  near_meets walkable =
      record {
        within = omega (arith, so.first.within);
        walks = held_walks (rw so.first.stands (so.holds spot.position)) walkable;
        least = λ other e h walks. omega (arith, so.first.least other (omega arith), placed other walks);
        earliest = λ other h walks. omega (arith, so.first.earliest other h, placed other walks);
      }

  -- Where it cannot, none can.
  pub near_stranded : SoundRoute network q route → spot.distance ≡ no_distance → Stranded network q route j
  near_stranded may e reaches =
      let at = reaches.position in
      let far = rider_bounded may.sound (position_below may at) reaches.walks in
      omega (arith, so.first.least at (omega (arith, reaches.within)), placed at reaches.walks)
