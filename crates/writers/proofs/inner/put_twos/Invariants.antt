-- Invariant: the first numbers stand behind the place, and all else is as it was.
use Rattle.writers.proofs.PieceLaws.{TwosPut}
use Rattle.writers.proofs.inner.put_twos.Given as goal

abbrev pub invariant-loop-x : goal.invariant-loop-x
invariant-loop-x l = TwosPut l.numbers l.at l.initial.room l.room l.end l.x-index
