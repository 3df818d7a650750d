-- Invariant: the first j riders stand behind the place, and all else is as it was.
use Rattle.writers.proofs.PieceLaws.{RidersPut}
use Rattle.writers.proofs.request.put_riders.Given as goal

abbrev pub invariant-loop-j : goal.invariant-loop-j
invariant-loop-j l = RidersPut l.request l.at l.initial.room l.room l.end l.j
