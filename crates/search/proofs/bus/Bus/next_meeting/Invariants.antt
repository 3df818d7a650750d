-- Invariant: of the riders, those of `left` are not tried yet, and no other is tightly met. Each turn takes the lowest rider out of
-- `left`, so it gets smaller.
use Rattle.search.specs.Steps.{Trying}
use Rattle.search.proofs.bus.Bus.next_meeting.Given as goal

abbrev pub invariant-loop-left : goal.invariant-loop-left
invariant-loop-left l = Trying l.self l.left

abbrev pub decreases-loop-left : goal.decreases-loop-left
decreases-loop-left l = l.left
