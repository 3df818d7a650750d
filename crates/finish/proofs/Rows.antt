-- Rows of the work table: their starts, one rider at a time, and what spreads from these.
use Prim.Native.Nat.{ℕ, min, ◌+◌, ◌*◌, ◌<◌}
use mathlib.Core.Path.{◌≡◌, refl, ap}
use mathlib.Core.Logic.{◌≢◌, ◌⊎◌, inl, inr, ⊎_elim, ◌↔◌}
use mathlib.Core.List.{List}
use native.Mathlib.Decide.{ℕ_discrete}
use native.Mathlib.Omega.{arith}
use lib.ListN.{get_or}
use Rattle.rules.specs.Network.{SoundNetwork, node_count}
use Rattle.rules.specs.Request.{rider_weight_of, bus_weight_of}
use Rattle.rules.specs.Walks.{no_distance}
use Rattle.rules.specs.Routes.{RiderWalks, RiderHolds}
use Rattle.rules.specs.Plans.{Has, without}
use Rattle.rules.specs.Rooms.{no_finish}
use Rattle.rules.specs.declared.Request.{Request}
use Rattle.rules.proofs.WalkLaws.{leads_joins}
use Rattle.rules.proofs.RiderLaws.{rider_walks_unique, held_walks}
use Rattle.rules.specs.Limits.{packed_step}
use Rattle.least.specs.Trips.{Inside}
use Rattle.least.specs.Least.{Least}
use Rattle.least.specs.Spread.{Spread}
use Rattle.least.proofs.Least.{least_none, least_iff, least_min}
use Rattle.least.proofs.Trips.{compose}
use Rattle.finish.specs.Packed.{Packed, DriveArc, Met, Ends}
use Rattle.finish.specs.Rows.{MetSeen, Outside}
use Rattle.finish.proofs.Sets.{none_has, without_others}
use Rattle.finish.proofs.Packing.{packed_trip}
use Rattle.finish.proofs.Bounds.{rider_bounded}

-- Once j is seen too, one rider less is left.
pub outside_more : (left j : ℕ) → Has left j → (i : ℕ) → Outside (without left j) i ↔ (Outside left i ⊎ (i ≡ j))
outside_more left j has i = (
  λ out. elim (ℕ_discrete i j) [ yes e ↦ inr e | no other ↦ inl (λ h. out ((without_others left j has i).1 (h, other))) ],
  ⊎_elim (λ out h. out ((without_others left j has i).0 h).0) (λ e h. ((without_others left j has i).0 h).1 e),
)

pub drives_inside : {network : List ℕ} {weight : ℕ} → SoundNetwork network → Inside (node_count network) (DriveArc network weight)
drives_inside sound u v w h a = (leads_joins sound a.1.leads).end

module _ {network : List ℕ} {q : Request} where
  -- Row 0: 0 at the target, and none elsewhere.
  pub arrived_least : {v value : ℕ} → (v ≡ q.target → value ≡ 0) → (v ≢ q.target → value ≡ no_finish)
      → Least no_finish (Ends network q 0 v) value
  arrived_least {v} here there = elim (ℕ_discrete v q.target) [
    | yes e ↦ (let free = here e in record { capped = omega arith; lowest = λ x i. omega arith; met = λ h. inl (refl, e, free) })
    | no g ↦ rw (there g) (least_none (λ x. ⊎_elim (λ i. g i.1) (λ m. none_has m.0 m.1.has)))
  ]

  module _ {R v : ℕ} where
    met_least : {j d rest : ℕ} → Has R j → RiderWalks network q j v d
        → Least no_finish (Packed network q (without R j) v) rest
        → Least no_finish (Met network q R v j) (min no_finish (packed_step (rider_weight_of q j * d) + rest))
    met_least {j} {d} {rest} has walks l =
        record {
          capped = omega arith;
          lowest = λ x m. omega (arith, l.lowest m.rest m.finishes, ap (λ e. rider_weight_of q j * e) (rider_walks_unique m.walks walks));
          met = λ h. record { distance = d; rest = rest; has = has; walks = walks; finishes = l.met (omega arith); packs = omega arith };
        }

    -- Before a rider is seen there is no choice.
    pub none_seen : {Seen : ℕ → Type 0} → ((j : ℕ) → Has R j → Seen j → ⊥) → Least no_finish (MetSeen network q R Seen v) no_finish
    none_seen out = least_none (λ x m. out m.0 m.2.has m.1)

    -- Once all riders of R are seen, and R has one, every end is a choice.
    pub all_seen : {Seen : ℕ → Type 0} {t : ℕ} → 0 < R → ((j : ℕ) → Has R j → Seen j)
        → Least no_finish (MetSeen network q R Seen v) t
        → Least no_finish (Ends network q R v) t
    all_seen some seen = least_iff (λ x. (
      λ m. inr (m.0, m.2),
      ⊎_elim (λ i. absurd (omega arith)) (λ m. (m.0, seen m.0 m.1.has, m.1)),
    ))

    module _ {Seen More : ℕ → Type 0} {j : ℕ} (more : (i : ℕ) → More i ↔ (Seen i ⊎ (i ≡ j))) where
      seen_more : (x : ℕ) → (MetSeen network q R Seen v x ⊎ Met network q R v j x) ↔ MetSeen network q R More v x
      seen_more x = (
        ⊎_elim (λ m. (m.0, (more m.0).1 (inl m.1), m.2)) (λ m. (j, (more j).1 (inr refl), m)),
        λ m. ⊎_elim (λ s. inl (m.0, s, m.2)) (λ e. inr (rw e at m.2)) ((more m.0).0 m.1),
      )

      -- A rider that can walk to v is one more choice. Meeting that rider takes the walk, one step and the least rest, and
      -- the least of two choices is the smaller one; a sum above the cap is never it.
      pub rider_reaches : {d rest t : ℕ} → Has R j → RiderHolds network q j v d → d ≢ no_distance
          → Least no_finish (Packed network q (without R j) v) rest
          → Least no_finish (MetSeen network q R Seen v) t
          → Least no_finish (MetSeen network q R More v) (min t (packed_step (rider_weight_of q j * d) + rest))
      rider_reaches {d} {rest} {t} has held some l s =
          let step = packed_step (rider_weight_of q j * d) + rest in
          let same : min t (min no_finish step) ≡ min t step = omega arith in
          rw same at (least_iff seen_more (least_min s (met_least has (held_walks held some) l)))

      -- A rider that cannot walk to v is no choice.
      pub rider_strays : {d t : ℕ} → SoundNetwork network → v < node_count network → RiderHolds network q j v d → d ≡ no_distance
          → Least no_finish (MetSeen network q R Seen v) t
          → Least no_finish (MetSeen network q R More v) t
      rider_strays sound h (inl walks) none s = absurd (omega (arith, rider_bounded sound h walks))
      rider_strays {t = t} sound h (inr away) none s =
          let same : min t no_finish ≡ t = omega arith in
          rw same at (least_iff seen_more (least_min s (least_none (λ x m. away.0 _ m.walks))))

  -- What spreads over drive arcs from the starts of row R is row R: it is least over trips to those starts, so over trips to all
  -- that they are the least of, and those are the packed finishes.
  pub row_least : {R v : ℕ} {before after : List ℕ} → SoundNetwork network
      → ((x : ℕ) → x < node_count network → Least no_finish (Ends network q R x) (get_or before x 0))
      → Spread no_finish (node_count network) (DriveArc network (bus_weight_of q)) before after
      → v < node_count network
      → Least no_finish (Packed network q R v) (get_or after v 0)
  row_least {R} {v} sound starts spread h =
      least_iff (λ x. (packed_trip.1, packed_trip.0)) (compose (drives_inside sound) starts v h (spread.least v h))
