-- Walks are trips, and walking distances their least sums.
use Prim.Native.Nat.{ℕ, ◌-◌, ◌≤◌, ◌<◌}
use mathlib.Core.Logic.{inl, inr}
use mathlib.Core.List.{List, [], ◌∷◌}
use native.Mathlib.Decide.{dec_lt}
use native.Mathlib.Omega.{arith}
use Rattle.rules.specs.Limits.{closed}
use Rattle.rules.specs.Network.{SoundNetwork, node_count}
use Rattle.rules.specs.Walks.{Way, arrived, along, Walk, WalkingDistance, HoldsDistance, no_distance}
use Rattle.rules.proofs.WalkLaws.{walk_joins, return_walk}
use Rattle.least.specs.Trips.{Arcs, Trip, done, step, At, Inside}
use Rattle.least.specs.Least.{Least}
use Rattle.least.specs.WalkTrips.{Linked, WalkArcs, WalkTrip, longest_walk}
use Rattle.least.proofs.Shortening.{bounded}

module _ {Link : ℕ → Arcs} where
  -- A way is a trip to its end, over links.
  pub way_trip : {v u sum : ℕ} {links : List ℕ} → Way Link v u links sum → Trip (Linked Link) (At v) u sum
  way_trip (arrived here free) = done (here, free)
  way_trip (along {k = k} x w rest link way e) = step x w rest (k, link) (way_trip way) e

  pub trip_way : {v u sum : ℕ} → Trip (Linked Link) (At v) u sum → (links : List ℕ) × Way Link v u links sum
  trip_way (done i) = ([], arrived i.0 i.1)
  trip_way (step x w rest a t e) =
      let (links, way) = trip_way t in
      (a.0 ∷ links, along x w rest a.1 way e)

module _ {network : List ℕ} {start v : ℕ} where
  -- A walk is a trip back to its start.
  pub walk_trip : {sum : ℕ} {links : List ℕ} → Walk network start v links sum → WalkTrip network start v sum
  walk_trip walk = way_trip (return_walk walk).1

  pub trip_walk : {sum : ℕ} → WalkTrip network start v sum → (links : List ℕ) × Walk network start v links sum
  trip_walk t = return_walk (trip_way t).1

module _ {network : List ℕ} (sound : SoundNetwork network) where
  -- Walks stay among the nodes.
  pub inside : Inside (node_count network) (WalkArcs network)
  inside u v w h a = (walk_joins sound a.1).end

  module _ {start v : ℕ} (h : v < node_count network) where
    -- What is at most every walk's sum is at most what fewer links than nodes can cost.
    least_bounded : {least sum : ℕ} → ((d : ℕ) → WalkTrip network start v d → least ≤ d) → WalkTrip network start v sum
        → least ≤ longest_walk
    least_bounded lowest t =
        omega (
          arith,
          sound.nodes,
          bounded (closed - 1) 0 (λ u x w a. omega (arith, (walk_joins sound a.1).cheap))
              (λ u c i. omega arith) inside h lowest t,
        )

    pub walking_bounded : {d : ℕ} → WalkingDistance network start v d → d ≤ longest_walk
    walking_bounded walks = least_bounded (λ sum t. walks.least _ sum (trip_walk t).1) (walk_trip walks.walked)

    -- A place with the least sum of the walks from the start to v holds the walking distance. If the place is below the cap, a walk
    -- has that sum. Otherwise there is no walk, since with one the least sum would be at most the longest walk's.
    pub distance : {place : ℕ} → Least no_distance (WalkTrip network start v) place → HoldsDistance network start v place
    distance {place} l = elim (dec_lt place no_distance) [
      | yes g ↦ (
          let (links, walk) = trip_walk (l.met g) in
          inl (record { links = links; walked = walk; least = λ other sum w. l.lowest sum (walk_trip w) })
          )
      | no g ↦ inr ((λ links sum walk. omega (arith, least_bounded l.lowest (walk_trip walk))), omega arith)
    ]
