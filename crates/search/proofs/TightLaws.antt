-- Which steps are tight, by the numbers that the code compares.
use Prim.Native.Nat.{ℕ, ◌+◌, ◌*◌, ◌<◌}
use native.Mathlib.Omega.{arith}
use native.Mathlib.Decide.{ℕ_discrete, dec_lt}
use mathlib.Core.Path.{◌≡◌, refl, ◌∙◌}
use mathlib.Core.Logic.{inl, inr, ◌⊎◌, ⊎_elim}
use mathlib.Core.List.{List}
use borrow.Author.Tests.{eq-eqb, ne_eqb, le-leb, lt-leb}
use Rattle.rules.specs.Network.{from, to, drive}
use Rattle.rules.specs.Request.{rider_weight_of, rider_count_of, bus_weight_of}
use Rattle.rules.specs.Walks.{no_distance}
use Rattle.rules.specs.Routes.{RiderHolds}
use Rattle.rules.specs.Plans.{Has, without, drive_step}
use Rattle.rules.specs.Rooms.{no_finish}
use Rattle.rules.proofs.RiderLaws.{rider_holds_unique, held_walks}
use Rattle.rules.specs.Limits.{closed, packed_step, first_drive}
use Rattle.finish.proofs.Sets.{has_below}
use Rattle.finish.proofs.Bounds.{rider_bounded}
use Rattle.right.specs.Reading.{Step, meets, drives, Tight}
use Rattle.table.specs.Places.{value_at}
use Rattle.table.proofs.MeetingLaws.{cannot_meet, can_meet}
use Rattle.search.specs.Known.{Known, value_in}
use Rattle.search.specs.declared.bus.Bus.{Bus}
use Rattle.search.specs.Steps.{network_of, request_of, here, driving_step, Meets, Drives}

-- What a drive from v takes, where there is one.
no_drive : (network : List ℕ) (weight v k : ℕ)
    → (driving_step network weight v k ≡ no_finish) ⊎ ((from network k ≡ v) × (drive network k < closed))
unfolding driving_step
no_drive network weight v k = elim (ℕ_discrete (from network k) v) [
  | no away ↦ inl (simp (ne_eqb _ _ away))
  | yes starts ↦ elim (dec_lt (drive network k) closed) [
    | no shut ↦ inl (simp (eq-eqb _ _ starts, le-leb closed (drive network k) (omega arith)))
    | yes opened ↦ inr (starts, opened)
  ]
]

pub open_drive : (network : List ℕ) (weight v k : ℕ) → from network k ≡ v → drive network k < closed
    → packed_step (weight * drive network k) ≡ driving_step network weight v k
unfolding driving_step
open_drive network weight v k e h = simp (eq-eqb _ _ e, lt-leb _ _ h)

-- The step leads from where the bus stands to x, leaves S to be met, and is tight.
abbrev pub TightStep : Bus → ℕ → ℕ → ℕ → Type 0
TightStep bus = Tight (network_of bus) (request_of bus) (value_in bus.tables.now) bus.riders bus.node

module _ (bus : Bus) where
  -- A rider of the set is a rider of the request.
  pub member : (j : ℕ) → Has bus.riders j → j < rider_count_of (request_of bus)
  member j has = has_below bus.riders j (rider_count_of (request_of bus)) bus.stands.set has

  module _ (known : Known bus.tables.now) where
    holds : {j : ℕ} → Has bus.riders j → RiderHolds (network_of bus) (request_of bus) j bus.node (value_at (network_of bus) bus.tables.now.distances.now j bus.node)
    holds {j} has = known.walks j bus.node (member j has) bus.stands.node

    -- a meeting that makes up the value is tight
    pub meeting_tight : (j : ℕ) → Meets bus j → TightStep bus j (without bus.riders j) bus.node
    meeting_tight j (has, e) =
        let weight = rider_weight_of (request_of bus) j in
        let distance = value_at (network_of bus) bus.tables.now.distances.now j bus.node in
        elim (ℕ_discrete distance no_distance) [
          | yes none ↦ absurd (omega (arith, bus.stands.finite, cannot_meet weight distance none))
          | no some ↦
              (record {
                cost = _;
                leads = meets _ has (held_walks (holds has) some) refl refl refl;
                tight = e ∙ rw (← can_meet weight distance some);
              })
        ]

    -- a step below the first drive that is tight is such a meeting
    pub tight_meeting : {j S x : ℕ} → j < first_drive → TightStep bus j S x → Meets bus j
    tight_meeting {j} {S} {x} low so = go so.leads so.tight
      where
        go : {cost : ℕ} → Step (network_of bus) (request_of bus) bus.riders bus.node j S x cost
            → here bus ≡ packed_step cost + value_in bus.tables.now S x → Meets bus j
        go (meets d has walks left stays costs) tight =
            let distance = value_at (network_of bus) bus.tables.now.distances.now j bus.node in
            let same : distance ≡ d = rider_holds_unique (holds has) (inl walks) in
            let few = rider_bounded bus.tables.now.job.now.sound bus.stands.node walks in
            let step = can_meet (rider_weight_of (request_of bus) j) distance (omega arith) in
            (has, rw (left, stays, costs, ← same, step) at tight)
        go (drives k w step leads stays costs) tight = absurd (omega arith)

  -- a drive that makes up the value is tight
  pub driving_tight : (k : ℕ) → Drives bus k → TightStep bus (drive_step k) bus.riders (to (network_of bus) k)
  driving_tight k (exists, e) =
      let network = network_of bus in
      let weight = bus_weight_of (request_of bus) in
      ⊎_elim
      (λ none. absurd (omega (arith, bus.stands.finite, none)))
      (λ (starts, opened).
      (record {
        cost = _;
        leads = drives k (drive network k) refl (record { exists = exists; starts = starts; ends = refl; costs = refl; opened = opened }) refl refl;
        tight = e ∙ rw (← open_drive network weight bus.node k starts opened);
      }))
      (no_drive network weight bus.node k)

  -- a drive step that is tight is such a drive
  pub tight_drive : {k S x : ℕ} → TightStep bus (drive_step k) S x → Drives bus k
  tight_drive {k} {S} {x} so = go so.leads so.tight
    where
      go : {cost : ℕ} → Step (network_of bus) (request_of bus) bus.riders bus.node (drive_step k) S x cost
          → here bus ≡ packed_step cost + value_in bus.tables.now S x
          → Drives bus k
      go (meets d has walks left stays costs) tight = absurd (omega (arith, member (drive_step k) has, bus.tables.now.job.now.fits.riders))
      go (drives i w step leads stays costs) tight =
          let same : i ≡ k = omega arith in
          let link = rw same at leads in (
            link.exists,
            rw (
              stays,
              costs,
              ← link.costs,
              ← link.ends,
              open_drive (network_of bus) (bus_weight_of (request_of bus)) bus.node k link.starts
                  (rw (← link.costs) at link.opened),
            ) at tight,
          )
