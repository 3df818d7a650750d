-- Invariant: the places below j have passed.
use Rattle.rules.specs.Limits.{most_riders}
use Rattle.rules.specs.Writing.{place_checks}
use Rattle.rules.proofs.Order.{Passed}
use Rattle.writers.proofs.request.places_verdict.Given as goal

abbrev pub invariant-loop-j : goal.invariant-loop-j
invariant-loop-j l = Passed (place_checks l.request) most_riders l.j
