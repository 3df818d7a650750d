-- Invariant: of the riders, those of `left` are not seen yet, and `least` is the least that a meeting with one of the others takes. Each
-- turn takes the lowest rider out of `left`, so it gets smaller.
use Rattle.table.specs.Filling.{Seeing}
use Rattle.table.proofs.tables.Tables.least_meeting.Given as goal

abbrev pub invariant-loop-left : goal.invariant-loop-left
invariant-loop-left l = Seeing l.self.job.now.network l.self.job.now.request l.riders l.v l.left l.least

abbrev pub decreases-loop-left : goal.decreases-loop-left
decreases-loop-left l = l.left
