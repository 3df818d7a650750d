-- Invariant: the first i links have passed their checks, and lead to `node`.
use mathlib.Core.Path.{◌≡◌}
use lib.ListN.{length}
use Rattle.rules.specs.Routes.{node_at, route_link_checks}
use Rattle.rules.proofs.Order.{Passed}
use Rattle.price.proofs.drive.route_verdict.Given as goal

abbrev pub invariant-loop-i : goal.invariant-loop-i
invariant-loop-i l =
    Passed (route_link_checks l.job.network l.job.request l.route) (length l.route) l.i
    × (l.node ≡ node_at l.job.network l.job.request.source l.route l.i)
