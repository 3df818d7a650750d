use native.Mathlib.Omega.{arith}
use mathlib.Core.Path.{refl, sym, ◌∙◌}
use Rattle.rules.specs.Routes.{node_at}
use Rattle.rules.proofs.Order.{passed_none, passed_more}
use Rattle.price.proofs.RouteLaws.{node_next}
use Rattle.price.proofs.drive.route_verdict.Goals as goal

pub loop-i-init : goal.loop-i-init
unfolding node_at
loop-i-init c = rw (← c.job.view_is) (passed_none _ _, refl)

pub loop-i-preserved : goal.loop-i-preserved
loop-i-preserved c =
    let before = rw (← c.job.view_is) at c.loop-i.invariant in
    let passes = sym c.link_verdict.ensures ∙ c.in_ok-link_verdict.was in
    rw (← c.job.view_is)
    (passed_more _ _ c.loop-i.i before.0 (omega arith) (rw before.1 at passes), c.to-node.ensures.value ∙ sym (node_next _ _ _ c.loop-i.i (omega arith)))
