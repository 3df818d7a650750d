-- Invariant: what stands there came from the values before by lowering places along arcs. Each further round makes the sum of all places
-- smaller; a round that changes nothing leaves no arc that would.
use Rattle.least.specs.WalkTrips.{Linked}
use Rattle.spread.specs.Relaxing.{Relaxing, total}
use Rattle.spread.proofs.engine.spread.Given as goal

abbrev pub invariant-loop : goal.invariant-loop
invariant-loop g l =
    let it = g.L.Links in Relaxing (it.node_count l.links) (Linked (it.arcs l.links)) (it.sums l.initial.places) (it.sums l.places)

abbrev pub decreases-loop : goal.decreases-loop
decreases-loop g l = total (g.L.Links.sums l.places)
