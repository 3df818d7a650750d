use Prim.Native.Nat.{◌≤◌, ◌*◌, ◌<◌}
use native.Mathlib.Omega.{arith}
use native.Mathlib.Nat.{mul-le-mul}
use mathlib.Core.Path.{refl}
use lib.ListN.{get_or, length-set}
use Rattle.rules.specs.Limits.{most_weight}
use Rattle.rules.specs.Request.{rider_count_of}
use Rattle.least.specs.WalkTrips.{longest_walk}
use Rattle.finish.proofs.Bounds.{rider_bounded}
use Rattle.price.proofs.RouteLaws.{drive_sound}
use Rattle.price.proofs.NearLaws.{position_below}
use Rattle.price.proofs.MeetLaws.{met_none, met_more, met_stranded, met_all}
use Rattle.price.proofs.Bounds.{met_bounded}
use Rattle.price.proofs.riders.meet_riders.Goals as goal
use Rattle.price.proofs.riders.meet_riders.Goals.{In-Some}

pub loop-j-init : goal.loop-j-init
loop-j-init c = (refl, met_none c.cost-price.ensures)

pub returns-in_default : goal.returns-in_default
returns-in_default c =
    let more : c.loop-j.j < rider_count_of c.args.drive.now.job.now.request = rw (← c.job.view_is) c.loop-j-test.true in
    rw c.at.ensures (met_stranded c.loop-j.invariant.1 more (c.in_default.ensures.none refl))

pub overflow_cast-meetings : goal.overflow_cast-meetings
overflow_cast-meetings c = omega (arith, (drive_sound c.args.drive.now).few, c.in-Some.ensures.some.within)

-- What the rider walks costs little.
walk_small : (c : In-Some) → get_or c.job.inside.request.weights c.loop-j.j 0 * c.in-Some.spot.distance ≤ most_weight * longest_walk
walk_small c =
    let may = drive_sound c.args.drive.now in
    mul-le-mul (c.job.inside.fits.weights _ c.loop-j-test.true).1 (rider_bounded may.sound (position_below may _) c.in-Some.ensures.some.walks)

pub overflow_mul-price : goal.overflow_mul-price
overflow_mul-price c = omega (arith, walk_small (goal.at.overflow_mul-price c).In-Some)

pub overflow_add-price : goal.overflow_add-price
overflow_add-price c =
    let may = drive_sound c.args.drive.now in
    omega (arith, walk_small (goal.at.overflow_add-price c).In-Some, met_bounded may c.loop-j.invariant.1)

pub loop-j-preserved : goal.loop-j-preserved
loop-j-preserved c =
    let before = rw (← c.job.view_is) at c.loop-j.invariant in
    let met = rw (← c.job.view_is) at c.in-Some.ensures.some in
    let few = c.job.inside.fits.riders in
    rw (← c.job.view_is) (simp length-set before.0, met_more before.1 c.loop-j-test.true (omega (arith, before.0, few)) met)

pub returns : goal.returns
returns c =
    let all : rider_count_of c.args.drive.now.job.now.request ≤ c.loop-j.j = rw (← c.job.view_is) c.loop-j-test.false in
    let may = drive_sound c.args.drive.now in
    met_all c.loop-j.invariant.1 may all (omega (arith, c.loop-j.invariant.0, may.value.riders))
