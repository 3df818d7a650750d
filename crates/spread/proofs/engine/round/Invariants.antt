-- Invariant: the links below k were relaxed, and if nothing changed then none of them makes a sum smaller.
use Rattle.least.specs.WalkTrips.{Linked}
use Rattle.spread.specs.Relaxing.{Progress, RelaxedBelow}
use Rattle.spread.proofs.engine.round.Given as goal

abbrev pub invariant-loop-k : goal.invariant-loop-k
invariant-loop-k g l =
    let it = g.L.Links in
    Progress (it.node_count l.links) (Linked (it.arcs l.links)) (RelaxedBelow (it.arcs l.links) l.k) (it.sums l.initial.places) (it.sums l.places) l.changed
