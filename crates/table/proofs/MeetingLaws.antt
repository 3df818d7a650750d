-- What a meeting takes, and the lowest rider that is left to be tried.
use Prim.Native.Nat.{ℕ, ◌*◌, ◌^◌, ◌≤◌, ◌<◌}
use mathlib.Core.Path.{◌≡◌}
use mathlib.Core.Logic.{◌≢◌}
use native.Mathlib.Omega.{arith}
use lib.Count.{count_trailing_zeros}
use borrow.Author.Tests.{eq-eqb, ne_eqb}
use Rattle.rules.specs.Limits.{most_riders, packed_step}
use Rattle.rules.specs.Request.{rider_count_of}
use Rattle.rules.specs.Walks.{no_distance}
use Rattle.rules.specs.Plans.{Has}
use Rattle.rules.specs.Rooms.{no_finish}
use Rattle.rules.specs.declared.Request.{Request}
use Rattle.rules.proofs.PlanLaws.{few_sets}
use Rattle.finish.specs.Sets.{LowestRider}
use Rattle.finish.proofs.Sets.{has_le, has_below, lowest_rider}
use Rattle.table.specs.Meetings.{meeting_step, Tries}
use Rattle.table.specs.declared.tables.Tables.{Tables}

module _ (weight distance : ℕ) where
  pub cannot_meet : distance ≡ no_distance → no_finish ≡ meeting_step weight distance
  unfolding meeting_step
  cannot_meet e = simp (eq-eqb _ _ e)

  pub can_meet : distance ≢ no_distance → packed_step (weight * distance) ≡ meeting_step weight distance
  unfolding meeting_step
  can_meet far = simp (ne_eqb _ _ far)

-- The lowest rider that is left is a rider of the request, and its bit is in the set and in what is left of it.
pub record Candidate (q : Request) (R left j : ℕ) : Type 0 where
  pub lowest : LowestRider left j
  pub has : Has R j
  pub below : j < rider_count_of q
  pub few : j < most_riders
  pub within : 2 ^ j ≤ left
  pub member : 2 ^ j ≤ R

pub candidate : {tables : Tables} {R left v : ℕ} → Tries tables R left v → Candidate tables.job.now.request R left (count_trailing_zeros 32 left)
candidate {tables} {R = R} {left} tries =
    let few = tables.job.now.fits.riders in
    let low = lowest_rider 32 left tries.some (omega (arith, tries.of.within, few_sets few tries.set)) in
    let has = tries.of.of _ low.has in
    let below = has_below R _ (rider_count_of tables.job.now.request) tries.set has in
    record {
      lowest = low;
      has = has;
      below = below;
      few = omega (arith, few);
      within = has_le left _ low.has;
      member = has_le R _ has;
    }
