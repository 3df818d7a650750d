-- The steps written so far, and the right plan when there is nothing left to do.
use Prim.Native.Nat.{ℕ, ◌+◌, ◌%◌, ◌≤◌, ◌<◌}
use native.Mathlib.Omega.{arith}
use native.Mathlib.Decide.{ℕ_discrete}
use native.Mathlib.Numerals.{add-one}
use mathlib.Core.Path.{◌≡◌, sym, subst, ◌∙◌, ap}
use mathlib.Core.Logic.{⊎_elim}
use mathlib.Core.List.{List, ◌++◌}
use lib.ListN.{length, set, take, drop, length-set, take-append-drop}
use lib.Seq.{take-suc-set, length-take-le}
use lib.Count.{ones-ones}
use Rattle.rules.specs.Limits.{step_range}
use Rattle.rules.specs.Request.{rider_count_of}
use Rattle.rules.specs.Rooms.{no_finish}
use Rattle.rules.specs.Plans.{all_riders}
use Rattle.rules.proofs.PlanLaws.{all_riders_below}
use Rattle.rules.proofs.RoomLaws.{kept_then, kept_set}
use Rattle.rules.proofs.WritingLaws.{kept_later}
use Rattle.finish.proofs.Bounds.{least_holds, best_bounded, unpacks}
use Rattle.right.specs.Reading.{NextStep}
use Rattle.right.proofs.Reading.{reading_next, reading_room, reading_done}
use Rattle.table.specs.declared.tables.Tables.{Tables}
use Rattle.search.specs.Known.{best_in, value_in}
use Rattle.search.specs.declared.bus.Bus.{Bus}
use Rattle.search.specs.Steps.{request_of, here, Next, Planning, Writing, PlanWritten}
use Rattle.search.specs.declared.bus.Move.{Move}

module _ {start : Bus} {before : List ℕ} (planning : Planning start before) where
  finite : best_in start.tables.now < no_finish
  finite = rw (planning.from.all, planning.from.source) at start.stands.finite

  -- The plan has no more steps than there is room.
  plan_room : best_in start.tables.now % step_range ≤ length before
  plan_room =
      let job = start.tables.now.job.now in
      let q = request_of start in
      let below = all_riders_below q in
      let starts = job.fits.starts in
      ⊎_elim
      (λ has.
      let short = (best_bounded job.sound job.fits below starts has.best).short in
      omega (arith, planning.room, rw (ones-ones (rider_count_of q)) at short, (unpacks job.sound job.fits below starts has.best has.packs).remainder))
      (λ none. absurd (omega (arith, finite)))
      (least_holds job.sound job.fits below starts (planning.known.filled (all_riders q) q.source below starts))

  module _ {bus : Bus} {i : ℕ} {after : List ℕ} (so : Writing start.tables.now before bus i after) where
    stands_there : here bus ≡ value_in start.tables.now bus.riders bus.node
    stands_there = ap (λ (t : Tables). value_in t bus.riders bus.node) so.same

    pub room_left : 0 < here bus → i < length after
    room_left some =
        let job = start.tables.now.job.now in
        let more = reading_room job.sound job.fits planning.known.filled so.reading (rw stands_there at some) in
        omega (arith, so.kept.size, plan_room, length-take-le i after so.short, more)

    -- one step more
    pub writing_more : {move : Move} → Next bus move → Writing start.tables.now before move.bus (i + 1) (set after i move.step)
    writing_more {move} next =
        let job = start.tables.now.job.now in
        let left = room_left (omega (arith, next.lowest.tight.tight)) in
        let lowest =
        subst
        (λ (t : Tables). NextStep t.job.now.network t.job.now.request (value_in t) bus.riders bus.node move.step move.bus.riders move.bus.node)
        so.same next.lowest in
        record {
          short = rw length-set (omega (arith, left));
          reading =
              rw (add-one, take-suc-set after i move.step left)
              (reading_next job.sound job.fits planning.known.filled so.reading lowest);
          kept = kept_then (kept_later (omega arith) so.kept) (kept_set after i move.step (omega arith));
          same = next.same ∙ so.same;
        }

    -- nothing left to do
    pub writing_done : here bus ≡ 0 → PlanWritten start.tables.now before after
    writing_done none =
        let job = start.tables.now.job.now in
        let (right, count) = reading_done job.sound job.fits planning.known.filled so.reading (rw stands_there at none) in
        let rest = so.kept.later ∙ ap (λ (k : ℕ). drop k before) (sym (length-take-le i after so.short)) in
        record {
          plan = take i after;
          right = right;
          count = count;
          written = sym (take-append-drop i after) ∙ ap (λ (l : List ℕ). take i after ++ l) rest;
        }

    -- no room left
    pub writing_full : length after ≤ i → PlanWritten start.tables.now before after
    writing_full full = elim (ℕ_discrete (here bus) 0) [
      | yes none ↦ writing_done none
      | no some ↦ absurd (omega (arith, room_left (omega arith)))
    ]
