-- Invariant: the riders below j are met, and the price is that of the drive and of their walks.
use mathlib.Core.Path.{◌≡◌}
use lib.ListN.{length}
use Rattle.rules.specs.Limits.{most_riders}
use Rattle.price.proofs.MeetLaws.{MetBelow}
use Rattle.price.proofs.riders.meet_riders.Given as goal

abbrev pub invariant-loop-j : goal.invariant-loop-j
invariant-loop-j l = (length l.meetings ≡ most_riders) × MetBelow l.drive.job.now.network l.drive.job.now.request l.drive.links.now l.j l.price l.meetings
