-- Invariant: what is written, and the lines of the steps that are left, from where the bus stands, make the whole.
use Rattle.output.specs.Answered.{Stepping}
use Rattle.output.proofs.pieces.put_steps.Given as goal

abbrev pub invariant-loop-number : goal.invariant-loop-number
invariant-loop-number l = Stepping l.network l.distances l.source l.steps l.at l.initial.text l.text l.end l.node l.number-index
