-- Invariant: the bytes from i on stand there, and those of what is left are to come before them (`Filled`).
use Prim.Native.Nat.{◌+◌}
use Rattle.writers.proofs.FillLaws.{Filled}
use Rattle.writers.proofs.inner.put_number.Given as goal

abbrev pub invariant-loop-i : goal.invariant-loop-i
invariant-loop-i l = Filled l.x l.size l.at l.end l.initial.room l.room l.left (l.at + l.i)
