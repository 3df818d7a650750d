-- Invariant: the links below k have passed.
use Rattle.rules.specs.Network.{given_links}
use Rattle.rules.specs.Writing.{given_link_checks}
use Rattle.rules.proofs.Order.{Passed}
use Rattle.writers.proofs.network.links_verdict.Given as goal

abbrev pub invariant-loop-k : goal.invariant-loop-k
invariant-loop-k l = Passed (given_link_checks l.n l.links) (given_links l.links) l.k
