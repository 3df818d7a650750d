use Prim.Native.Nat.{◌+◌}
use native.Mathlib.Omega.{arith}
use mathlib.Core.Path.{◌≡◌, refl, sym, ◌∙◌}
use lib.ListN.{length}
use Rattle.rules.specs.Routes.{node_at}
use Rattle.rules.proofs.RiderLaws.{rider_held}
use Rattle.rules.proofs.RouteLaws.{way_known}
use Rattle.price.proofs.RouteLaws.{drive_sound, node_next}
use Rattle.price.proofs.NearLaws.{sofar_first, sofar_more, position_below, near_meets, near_stranded}
use Rattle.price.specs.Near.{Nearest}
use Rattle.price.proofs.riders.nearest.Goals.{After-loop-i}
use Rattle.price.proofs.riders.nearest.Goals as goal

pub loop-i-init : goal.loop-i-init
unfolding node_at
loop-i-init c = rw (← c.job.view_is) (sofar_first _ refl)

pub to-node-requires : goal.to-node-requires
to-node-requires c =
    let known = way_known (drive_sound c.args.drive.now).drives c.loop-i.i (omega arith) in
    rw (← c.job.view_is) at known

pub loop-i-preserved : goal.loop-i-preserved
loop-i-preserved c =
    let before = rw (← c.job.view_is) at c.loop-i.invariant in
    let reads = c.to-node.ensures.value ∙ sym (node_next _ c.job.inside.request.source _ c.loop-i.i (omega arith)) in
    rw (← c.job.view_is) (rw c.closer-spot.ensures (sofar_more _ (c.loop-i.i + 1) c.loop-i.spot before (rw reads)))

-- The spot is the earliest of the nearest positions.
near : (c : After-loop-i) → Nearest c.args.drive.now.job.now.network c.args.drive.now.job.now.request c.args.j c.args.drive.now.links.now c.loop-i.spot
near c =
    let may = rw (← c.job.view_is) at (drive_sound c.args.drive.now) in
    let last = rw (← c.job.view_is) at c.loop-i.invariant in
    let all : c.loop-i.i ≡ length c.args.drive.now.links.now = omega (arith, c.loop-i-test.false) in
    rw (← c.job.view_is)
    (record {
      place = _;
      holds = λ position. rider_held (c.walk_from.ensures.holds _ (position_below may position));
      first = rw all at last;
    })

pub returns-then-spot-clause-none : goal.returns-then-spot-clause-none
returns-then-spot-clause-none c none = near_stranded (near (goal.at.returns-then-spot-clause-none c).After-loop-i) (drive_sound c.args.drive.now) c.if-spot.true

pub returns-clause-some : goal.returns-clause-some
returns-clause-some c = near_meets (near (goal.at.returns-clause-some c).After-loop-i) c.if-spot.false
