-- Invariant: the line is the fields of the numbers that are not left, and has room for those that are.
use Rattle.std.specs.Slice.Iter.{iter_rest}
use Rattle.std.specs.Iterator.Adapters.{rev_source}
use Rattle.lines.proofs.TextLaws.{Spelt}
use Rattle.lines.proofs.text.Line.of.Given as goal

abbrev pub invariant-loop-x : goal.invariant-loop-x
invariant-loop-x l = Spelt l.numbers (iter_rest (rev_source l.x-iterator)) l.line
