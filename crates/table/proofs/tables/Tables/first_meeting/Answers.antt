-- The lowest rider that is left is a rider of the request, so its bit can be taken out of both sets.
use native.Mathlib.Omega.{arith}
use lib.Count.{count_trailing_zeros}
use Rattle.table.proofs.MeetingLaws.{Candidate, candidate}
use Rattle.table.proofs.tables.Tables.first_meeting.Goals as goal
use Rattle.table.proofs.tables.Tables.first_meeting.Goals.{After-rider_bit-bit}

who : (c : After-rider_bit-bit) →
    Candidate c.args.self.now.job.now.request c.args.riders c.args.left (count_trailing_zeros 32 c.args.left)
who c = candidate c.requires

pub overflow_sub-behind : goal.overflow_sub-behind
overflow_sub-behind c = omega (arith, who (goal.at.overflow_sub-behind c).After-rider_bit-bit, c.rider_bit-bit.ensures)

pub overflow_sub-result : goal.overflow_sub-result
overflow_sub-result c = omega (arith, who (goal.at.overflow_sub-result c).After-rider_bit-bit, c.rider_bit-bit.ensures)

pub meeting_step-requires : goal.meeting_step-requires
meeting_step-requires c = ((who (goal.at.meeting_step-requires c).After-rider_bit-bit).below, c.requires.node)

pub returns : goal.returns
returns c =
    let next = who (goal.at.returns c).After-rider_bit-bit in
    let bit = c.rider_bit-bit.ensures in
    record {
      lowest = next.lowest;
      below = next.below;
      leaves = cc (bit);
      still = cc (bit);
      step = c.meeting_step.ensures;
      rest = rw (← c.job.view_is) (cc (bit, c.value.ensures));
    }
