-- Invariant: the nodes of the riders below j have passed.
use Rattle.rules.specs.Request.{rider_count_of}
use Rattle.rules.specs.Writing.{given_rider_checks}
use Rattle.rules.proofs.Order.{Passed}
use Rattle.writers.proofs.request.nodes_verdict.Given as goal

abbrev pub invariant-loop-j : goal.invariant-loop-j
invariant-loop-j l = Passed (given_rider_checks l.n l.request) (rider_count_of l.request) l.j
