use native.Mathlib.Omega.{arith}
use Rattle.table.proofs.DistanceLaws.{walked_more}
use Rattle.table.proofs.distances.fill_distances.Goals as goal

pub loop-j-preserved : goal.loop-j-preserved
loop-j-preserved c =
    let before = rw (← c.job.view_is) at c.loop-j.invariant in
    rw (← c.job.view_is) (walked_more c.loop-j-test.true (rw (← c.job.view_is) at c.requires) before c.node_count-n.ensures.value (omega arith) c.walk_from.ensures)
