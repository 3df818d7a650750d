-- One link: closed to walkers; or the farther of its ends is no farther than the nearer one and the cost, or is lowered to that.
use native.Mathlib.Omega.{arith}
use Rattle.rules.specs.Walks.{Walkable}
use Rattle.rules.proofs.WalkLaws.{walk_back}
use Rattle.spread.proofs.RelaxingLaws.{progress_none, progress_lowered}
use Rattle.spread.proofs.LinkLaws.{walk_closed, walk_arc, walk_loose}
use Rattle.spread.proofs.walks.WalksLinks.relax.Goals as goal
use Rattle.spread.proofs.walks.WalksLinks.relax.Goals.{After-to-end}

pub returns-then-cost-ge-CLOSED : goal.returns-then-cost-ge-CLOSED
returns-then-cost-ge-CLOSED c = progress_none (walk_closed c.args.distances.now c.walk-cost.ensures.value (omega arith))

-- What was read is a link that can be walked from its start to its end.
arc : (c : After-to-end) →
    Walkable c.args.self.now.network.now.bytes c.args.k c.from-start.result c.to-end.result c.walk-cost.result
arc c =
    walk_arc c.requires.exists c.from-start.ensures.value c.to-end.ensures.value (omega arith)
    c.walk-cost.ensures.value

pub returns-then-distances-start : goal.returns-then-distances-start
returns-then-distances-start c =
    let link = arc (goal.at.returns-then-distances-start c).After-to-end in
    progress_lowered (omega arith) (_, walk_back link) (walk_loose c.args.distances.now link (omega arith)) c.shorten.ensures

pub returns : goal.returns
returns c =
    let link = arc (goal.at.returns c).After-to-end in
    progress_lowered (omega arith) (_, link) (λ loose. walk_loose c.args.distances.now link loose (omega arith))
    c.shorten-2.ensures
