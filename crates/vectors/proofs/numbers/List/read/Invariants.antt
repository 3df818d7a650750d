-- Nothing is claimed of the loop but that it ends: what is left of the part gets shorter.
use Rattle.std.proofs.Common.{length}
use Rattle.vectors.proofs.numbers.List.read.Given as goal

abbrev pub decreases-loop-rest : goal.decreases-loop-rest
decreases-loop-rest l = length l.rest
