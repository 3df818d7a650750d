-- What a row starts from, one rider of its set after the other.
use Prim.Native.Nat.{ℕ, min, ◌+◌, ◌^◌, ◌<◌}
use mathlib.Core.Path.{◌≡◌}
use mathlib.Core.Logic.{◌≢◌, ◌⊎◌, ◌↔◌}
use mathlib.Core.List.{List}
use native.Mathlib.Decide.{ℕ_discrete}
use native.Mathlib.Omega.{arith}
use lib.Count.{ones}
use Rattle.rules.specs.Network.{SoundNetwork, node_count}
use Rattle.rules.specs.Request.{rider_count_of, rider_weight_of}
use Rattle.rules.specs.Walks.{no_distance}
use Rattle.rules.specs.Routes.{RiderHolds}
use Rattle.rules.specs.Plans.{Has, without}
use Rattle.rules.specs.Rooms.{no_finish}
use Rattle.rules.specs.declared.Request.{Request}
use Rattle.least.specs.Least.{Least}
use Rattle.finish.specs.Packed.{Packed, Ends}
use Rattle.finish.specs.Rows.{MetSeen}
use Rattle.finish.proofs.Sets.{nobody_empty, nobody_has, without_less, subset_less}
use Rattle.finish.proofs.Rows.{arrived_least, outside_more, all_seen, rider_reaches, rider_strays}
use Rattle.table.specs.Filling.{RowReady, Seeing}
use Rattle.table.specs.declared.tables.Tables.{Tables}
use Rattle.table.specs.Meetings.{meeting_step, TriesLowest}
use Rattle.table.specs.declared.meetings.FirstMeeting.{FirstMeeting}
use Rattle.table.proofs.MeetingLaws.{cannot_meet, can_meet}

-- Rider j, who walks to v or cannot, is seen too.
rider_seen : {network : List ℕ} {q : Request} {R v d rest t : ℕ} {Seen More : ℕ → Type 0} (j : ℕ)
    → ((i : ℕ) → More i ↔ (Seen i ⊎ (i ≡ j)))
    → SoundNetwork network
    → v < node_count network
    → Has R j
    → RiderHolds network q j v d
    → Least no_finish (Packed network q (without R j) v) rest
    → Least no_finish (MetSeen network q R Seen v) t
    → Least no_finish (MetSeen network q R More v) (min t (meeting_step (rider_weight_of q j) d + rest))
rider_seen {q = q} {d = d} {rest} {t} j more sound h has walks l s = elim (ℕ_discrete d no_distance) [
  | yes e ↦ (
      let none : min t (meeting_step (rider_weight_of q j) d + rest) ≡ t = omega (arith, cannot_meet (rider_weight_of q j) d e, s.capped) in
      rw none (rider_strays more sound h walks e s)
      )
  | no far ↦ rw (← can_meet (rider_weight_of q j) d far) (rider_reaches more has walks far l s)
]

-- With no rider to meet, a finish ends at the target.
pub arrived : {network : List ℕ} {q : Request} {R v value : ℕ} → R < 2 ^ rider_count_of q → ones R ≡ 0 → (v ≡ q.target → value ≡ 0)
    → (v ≢ q.target → value ≡ no_finish) → Least no_finish (Ends network q R v) value
arrived {q = q} {R} small none here there = rw (nobody_empty (rider_count_of q) R small none) (arrived_least here there)

module _ {tables : Tables} {R v : ℕ} (ready : RowReady tables R) (h : v < node_count tables.job.now.network) where
  module _ {left least : ℕ} (so : Seeing tables.job.now.network tables.job.now.request R v left least) where
    -- the lowest rider left is seen too
    pub seeing_more : {next : FirstMeeting} → TriesLowest tables R left v next
        → Seeing tables.job.now.network tables.job.now.request R v next.left (min least (min (next.step + next.rest) no_finish))
    seeing_more {next} tries =
        let j = next.rider in
        let has = tries.lowest.has in
        let met : Has R j = so.of.of j has in
        let walks = ready.walks j v tries.below h in
        let behind = ready.below (without R j) v (without_less R j met) h in
        let same : min least (min (next.step + next.rest) no_finish) ≡ min least (next.step + next.rest) = omega (arith, so.least.capped) in
        rw (tries.leaves, same, tries.step, tries.rest)
        (record {
          of = subset_less j has so.of;
          least = rider_seen j (outside_more left j has) tables.job.now.sound h met walks behind so.least;
        })

  pub seeing_all : {left least : ℕ} → 0 < R → ones left ≡ 0 → Seeing tables.job.now.network tables.job.now.request R v left least
      → Least no_finish (Ends tables.job.now.network tables.job.now.request R v) least
  seeing_all {left} some nobody-left so = all_seen some (λ j has. nobody_has left j nobody-left) so.least
