use Prim.Native.Nat.{ℕ, ◌≤◌, ◌*◌}
use native.Mathlib.Omega.{arith}
use native.Mathlib.Nat.{mul-le-mul}
use mathlib.Core.Path.{◌≡◌, refl, ap}
use lib.ListN.{length}
use Rattle.rules.specs.Limits.{closed, longest_route}
use Rattle.rules.specs.Routes.{sum}
use Rattle.rules.proofs.RouteLaws.{way_known}
use Rattle.price.proofs.RouteLaws.{drive_sound, sum_more}
use Rattle.price.proofs.drive.Drive.cost.Goals as goal

pub loop-link-init : goal.loop-link-init
unfolding sum
loop-link-init c = (refl, omega arith)

pub drive-driving-requires : goal.drive-driving-requires
drive-driving-requires c =
    let known = way_known (drive_sound c.args.self.now).drives c.loop-link.link-index (omega arith) in
    rw (← c.job.view_is) at known

pub overflow_add-driving : goal.overflow_add-driving
overflow_add-driving c =
    omega (arith, (drive_sound c.args.self.now).few, c.loop-link.invariant.1, c.drive-driving.ensures.below)

pub loop-link-preserved : goal.loop-link-preserved
loop-link-preserved c =
    let before = rw (← c.job.view_is) at c.loop-link.invariant in
    (rw (← c.job.view_is) (rw sum_more (cc (before.0, c.drive-driving.ensures.value))), omega (arith, before.1, c.drive-driving.ensures.below))

pub overflow_mul-result : goal.overflow_mul-result
overflow_mul-result c =
    let far : c.loop-link.driving ≤ closed * longest_route =
    omega (arith, (drive_sound c.args.self.now).few, c.loop-link.invariant.1) in
    omega (arith, mul-le-mul c.job.inside.fits.bus.1 far)

pub returns : goal.returns
returns c =
    let before = rw (← c.job.view_is) at c.loop-link.invariant in
    let all : c.loop-link.link-index ≡ length c.args.self.now.links.now = omega arith in
    rw (← c.job.view_is) (ap (λ (x : ℕ). c.job.inside.request.bus_weight * x) (rw all at before.0))
