-- Invariant: the links below k have passed.
use Rattle.rules.specs.Network.{link_count, link_checks}
use Rattle.rules.proofs.Order.{Passed}
use Rattle.records.proofs.network.links_verdict.Given as goal

abbrev pub invariant-loop-k : goal.invariant-loop-k
invariant-loop-k l = Passed (link_checks l.network) (link_count l.network) l.k
