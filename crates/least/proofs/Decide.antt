-- Whether a number is the walking distance can be decided, and where there is a walk there is one.
use Prim.Native.Nat.{ℕ, zero, suc, ◌+◌, ◌-◌, ◌<◌}
use mathlib.Core.Path.{◌≡◌, refl}
use mathlib.Core.Logic.Dec
use mathlib.Core.Logic.{◌⊎◌, inl, inr, ⊎_elim}
use mathlib.Core.List.{List}
use native.Mathlib.Decide.{ℕ_discrete, dec_lt}
use native.Mathlib.Omega.{arith}
use Rattle.rules.specs.Network.{SoundNetwork, node_count, link_count}
use Rattle.rules.specs.Request.{rider_count_of, SoundValue}
use Rattle.rules.specs.Walks.{Walkable, Walk, WalkingDistance}
use Rattle.rules.specs.Routes.{RiderWalks}
use Rattle.rules.specs.declared.Request.{Request}
use Rattle.rules.proofs.WalkLaws.{walk_exists, dec_walk_on, distance_unique}
use Rattle.least.specs.Trips.{done, step, arc_count}
use Rattle.least.specs.WalkTrips.{WalkTrip}
use Rattle.least.proofs.WalkTrips.{way_trip, trip_way, inside}
use Rattle.least.proofs.Shortening.{shortened}

-- The lowest number with P below a bound.
pub record LowestBelow (P : ℕ → Type 0) (bound : ℕ) : Type 0 where
  pub number : ℕ
  pub within : number < bound
  pub holds : P number
  pub first : (other : ℕ) → other < number → P other → ⊥

module _ {P : ℕ → Type 0} (dec : (i : ℕ) → Dec (P i)) where
  seek : (bound : ℕ) → LowestBelow P bound ⊎ ((i : ℕ) → i < bound → P i → ⊥)
  seek zero = inr (λ i h p. omega arith)
  seek (suc bound) = elim (seek bound) [
    | inl low ↦ inl (record { number = low.number; within = omega arith; holds = low.holds; first = low.first })
    | inr none ↦ elim (dec bound) [
      | yes p ↦ inl (record { number = bound; within = omega arith; holds = p; first = none })
      | no h ↦ inr (λ i below p. elim (dec_lt i bound) [
        | yes l ↦ none i l p
        | no l ↦ (let e : i ≡ bound = omega arith in h (rw e at p))
      ])
    ]
  ]

  pub dec_lowest : (bound : ℕ) → Dec (LowestBelow P bound)
  dec_lowest bound = ⊎_elim yes (λ none. no (λ low. none low.number low.within low.holds)) (seek bound)

  pub lowest_of : {i bound : ℕ} → i < bound → P i → LowestBelow P bound
  lowest_of {i} {bound} h p = ⊎_elim (λ low. low) (λ none. absurd (none i h p)) (seek bound)

module _ {network : List ℕ} (sound : SoundNetwork network) (v : ℕ) where
  -- A walk from u to v of fewer than `most` links and a sum below b.
  record Short (most u b : ℕ) : Type 0 where
    sum : ℕ
    trip : WalkTrip network v u sum
    few : arc_count trip < most
    below : sum < b

  -- One whose first link is k.
  abbrev By : ℕ → ℕ → ℕ → ℕ → Type 0
  By most u b k = (x w : ℕ) × Walkable network k u x w × Short most x (b - w)

  -- A walk of fewer than one link more has no link at all, or a first one.
  split : {most u b sum : ℕ} (t : WalkTrip network v u sum) → arc_count t < suc most → sum < b
      → ((u ≡ v) × (0 < b)) ⊎ ((k : ℕ) × (k < link_count network) × By most u b k)
  unfolding arc_count
  split (done i) few below = inl (i.0, omega arith)
  split (step x w rest (k, link) t e) few below =
      inr (k, walk_exists link, (x, w, link, record { sum = rest; trip = t; few = omega arith; below = omega arith }))

  here : {most u b : ℕ} → u ≡ v → 0 < b → Short (suc most) u b
  unfolding arc_count
  here e h = record { sum = 0; trip = done (e, refl); few = omega arith; below = h }

  onward : {most u b : ℕ} (k : ℕ) → By most u b k → Short (suc most) u b
  unfolding arc_count
  onward k (x, w, link, rest) =
      record {
        sum = w + rest.sum;
        trip = step x w rest.sum (k, link) rest.trip refl;
        few = omega (arith, rest.few);
        below = omega (arith, rest.below);
      }

  dec_here : (u b : ℕ) → Dec ((u ≡ v) × (0 < b))
  dec_here u b = Dec.and (ℕ_discrete u v) (dec_lt 0 b)

  dec_short : (most u b : ℕ) → Dec (Short most u b)
  dec_short zero u b = no (λ r. omega (arith, r.few))
  dec_short (suc most) u b = elim (dec_here u b) [
    | yes h ↦ yes (here h.0 h.1)
    | no h ↦ elim (seek (λ k. dec_walk_on network (λ x w. dec_short most x (b - w)) k u) (link_count network)) [
      | inl low ↦ yes (onward low.number low.holds)
      | inr none ↦ no (λ r. ⊎_elim h (λ s. none s.0 s.1 s.2) (split r.trip r.few r.below))
    ]
  ]

  module _ {u : ℕ} (h : u < node_count network) where
    -- Some walk has fewer than n links and no greater sum.
    short : {sum b : ℕ} → WalkTrip network v u sum → sum < b → Short (node_count network) u b
    short t below =
        let s = shortened (inside sound) h t in
        record { sum = s.sum; trip = s.trip; few = s.short; below = omega arith }

    -- The sum of a walk is the distance where no walk has a lower one.
    descend : (b : ℕ) → Short (node_count network) u b → (d : ℕ) × WalkingDistance network u v d
    descend zero r = absurd (omega (arith, r.below))
    descend (suc b) r = elim (dec_short (node_count network) u b) [
      | yes s ↦ descend b s
      | no less ↦ (
          let (links, walked) = trip_way r.trip in (
            r.sum,
            record {
              links = links;
              walked = walked;
              least = λ other sum walk. elim (dec_lt sum b) [ yes g ↦ absurd (less (short (way_trip walk) g)) | no g ↦ omega (arith, r.below) ];
            },
          )
          )
    ]

    -- Where there is a walk, there is a distance.
    pub some_distance : {links : List ℕ} {sum : ℕ} → Walk network u v links sum → (d : ℕ) × WalkingDistance network u v d
    some_distance {sum = sum} walked = descend (suc sum) (short (way_trip walked) (omega arith))

    pub dec_distance : (d : ℕ) → Dec (WalkingDistance network u v d)
    dec_distance d = elim (dec_short (node_count network) u (suc d)) [
      | no none ↦ no (λ far. none (short (way_trip far.walked) (omega arith)))
      | yes r ↦ (
          let (e, far) = descend (suc d) r in
          elim (ℕ_discrete e d) [ yes same ↦ yes (rw same at far) | no other ↦ no (λ also. other (distance_unique far also)) ]
          )
    ]

-- Whether a rider walks to v, over the distance d.
pub dec_rider_walks : {network : List ℕ} {q : Request} → SoundNetwork network → SoundValue (node_count network) q
    → {j : ℕ} → j < rider_count_of q → (v d : ℕ) → Dec (RiderWalks network q j v d)
dec_rider_walks sound value {j} h v d = elim (dec_distance sound v (value.nodes j h) d) [
  | yes far ↦ yes (record { far = far })
  | no none ↦ no (λ walks. none walks.far)
]
