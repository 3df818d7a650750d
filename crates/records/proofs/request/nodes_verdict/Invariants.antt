-- Invariant: the nodes of the riders below j have passed.
use Rattle.rules.specs.Request.{rider_count, rider_node_checks}
use Rattle.rules.proofs.Order.{Passed}
use Rattle.records.proofs.request.nodes_verdict.Given as goal

abbrev pub invariant-loop-j : goal.invariant-loop-j
invariant-loop-j l = Passed (rider_node_checks l.n l.request) (rider_count l.request) l.j
