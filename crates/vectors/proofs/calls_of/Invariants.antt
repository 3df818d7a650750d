-- A line makes at most one call.
use Rattle.std.proofs.Common.{◌≤◌, length}
use Rattle.vectors.proofs.calls_of.Given as goal

abbrev pub invariant-loop-before : goal.invariant-loop-before
invariant-loop-before l = l.calls ≤ length l.yielded
