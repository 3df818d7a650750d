-- Invariant: the number of the first k bytes is read.
use Rattle.records.proofs.NumberLaws.{Read}
use Rattle.records.proofs.inner.number.Given as goal

abbrev pub invariant-loop-k : goal.invariant-loop-k
invariant-loop-k l = Read l.s l.i l.k l.x
