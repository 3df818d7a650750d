-- The lowest tight step, tried one after the other.
use Prim.Native.Nat.{ℕ, min, ◌+◌, ◌-◌, ◌≤◌, ◌<◌}
use native.Mathlib.Omega.{arith}
use native.Mathlib.Decide.{ℕ_discrete, dec_lt}
use mathlib.Core.Path.{◌≡◌, refl}
use lib.Count.{ones}
use Rattle.std.proofs.Common.{Option, None, Some}
use Rattle.std.specs.Prelude.{MatchOption, IsSome}
use Rattle.std.proofs.lemmas.Option.{MatchOption-at_some}
use Rattle.rules.specs.Limits.{most_links, first_drive}
use Rattle.rules.specs.Network.{link_count}
use Rattle.rules.specs.Plans.{without, drive_step}
use Rattle.rules.specs.Rooms.{no_finish}
use Rattle.finish.specs.Sets.{LowestRider}
use Rattle.finish.proofs.Sets.{nobody_has, without_others, subset_less}
use Rattle.right.specs.Reading.{Step, meets, drives}
use Rattle.right.proofs.Reading.{some_tight}
use Rattle.search.specs.Known.{Known}
use Rattle.search.specs.Steps.{network_of, request_of, here, meeting_value, drive_value, Meets, Drives, Trying, LowestMeeting, LowestDrive, Next}
use Rattle.search.specs.declared.bus.Bus.{Bus}
use Rattle.search.specs.declared.bus.Move.{Move}
use Rattle.search.proofs.TightLaws.{TightStep, member, meeting_tight, tight_meeting, driving_tight, tight_drive}

module _ {bus : Bus} where
  module _ {left : ℕ} (so : Trying bus left) where
    pub trying_more : (j : ℕ) → LowestRider left j → (here bus ≡ meeting_value bus j → ⊥) → Trying bus (without left j)
    trying_more j low loose =
        record {
          of = subset_less j low.has so.of;
          tried = λ i out met. elim (ℕ_discrete i j) [
            | yes same ↦ loose (rw same at met.1)
            | no other ↦ so.tried i (λ h. out ((without_others left j low.has i).1 (h, other))) met
          ];
        }

    pub trying_all : ones left ≡ 0 → (j : ℕ) → Meets bus j → ⊥
    trying_all nobody-left j met = so.tried j (nobody_has left j nobody-left) met

-- The lowest link that makes up the value, or none does.
abbrev pub LowestLink : Bus → Option ℕ → Type 0
LowestLink bus o =
    let loose = λ (k : ℕ). min (drive_value bus k) no_finish ≡ here bus → ⊥ in
    MatchOption o ((k : ℕ) → 0 ≤ k → k < link_count (network_of bus) → loose k)
    (λ k. (0 ≤ k) × (k < link_count (network_of bus)) × (min (drive_value bus k) no_finish ≡ here bus) × ((i : ℕ) → 0 ≤ i → i < k → loose i))

module _ (bus : Bus) where
  pub link_there : (k : ℕ) → Drives bus k → (o : Option ℕ) → LowestLink bus o → IsSome o
  link_there k (exists, e) None none = absurd (none k (omega arith) exists (omega (arith, e, bus.stands.finite)))
  link_there k driven (Some l) lowest = refl

  pub link_lowest : {o : Option ℕ} (k : ℕ) → o ≡ Some k → LowestLink bus o → Drives bus k × ((i : ℕ) → i < k → Drives bus i → ⊥)
  link_lowest k is lowest =
      let (_, exists, makes, passed) = MatchOption-at_some _ _ k is lowest in (
        (exists, omega (arith, makes, bus.stands.finite)),
        λ i low driven. passed i (omega arith) low (omega (arith, driven.1, bus.stands.finite)),
      )

  module _ (known : Known bus.tables.now) where
    pub next_met : {move : Move} → LowestMeeting bus move → Next bus move
    next_met {move} so =
        let few = member bus move.step so.meets.0 in
        record {
          lowest = record {
            tight = rw (so.leaves, so.stays) (meeting_tight bus known move.step so.meets);
            lowest = λ other S x tight. elim (dec_lt other move.step) [
              | yes less ↦ absurd (so.lowest other less (tight_meeting bus known (omega (arith, few, bus.tables.now.job.now.fits.riders)) tight))
              | no more ↦ omega arith
            ];
          };
          same = so.same;
        }

    module _ (none : (j : ℕ) → Meets bus j → ⊥) where
      -- A step that is tight is the drive of a link.
      driven_link : {P : Type 0} (step S x : ℕ) → TightStep bus step S x → ((k : ℕ) → step ≡ drive_step k → Drives bus k → P) → P
      driven_link step S x tight so = elim (dec_lt step first_drive) [
        | yes met ↦ absurd (none step (tight_meeting bus known met tight))
        | no driven ↦ (let is : step ≡ drive_step (step - first_drive) = omega arith in so (step - first_drive) is (tight_drive bus (rw is at tight)))
      ]

      -- Where the value is not 0, some drive is tight.
      pub some_drive : 0 < here bus → (k : ℕ) × Drives bus k
      some_drive some =
          let job = bus.tables.now.job.now in
          let at = bus.stands in
          let (step, S, x, tight) = some_tight job.sound job.fits known.filled at.set at.node at.finite some in
          driven_link step S x tight (λ k is driven. (k, driven))

      pub next_driven : {move : Move} → LowestDrive bus move → Next bus move
      next_driven so =
          record {
            lowest = record {
              tight = rw (so.is, so.stay, so.ends) (driving_tight bus so.link so.drives);
              lowest = λ other S x tight. driven_link other S x tight (λ k is driven. elim (dec_lt k so.link) [
                | yes low ↦ absurd (so.lowest k low driven)
                | no high ↦ omega (arith, so.is)
              ]);
            };
            same = so.same;
          }

-- A tight step is a 16-bit number.
pub step_small : (bus : Bus) {step S x : ℕ} → TightStep bus step S x → step < first_drive + most_links
step_small bus {step} {S} {x} so = go so.leads
  where
    go : {cost : ℕ} → Step (network_of bus) (request_of bus) bus.riders bus.node step S x cost → step < first_drive + most_links
    go (meets d has walks left stays costs) = omega (arith, member bus step has, bus.tables.now.job.now.fits.riders)
    go (drives k w is leads stays costs) = omega (arith, leads.exists, bus.tables.now.job.now.sound.links)
