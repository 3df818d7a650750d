use native.Mathlib.Omega.{arith}
use mathlib.Core.Path.{◌≡◌, refl}
use Rattle.rules.specs.Limits.{most_riders}
use Rattle.rules.specs.Request.{seven_places}
use Rattle.rules.specs.Writing.{value_of}
use Rattle.rules.proofs.SoundRequestLaws.{place_more}
use Rattle.desk.proofs.writing.value_of.Goals as goal

pub loop-j-init : goal.loop-j-init
unfolding seven_places
loop-j-init c = (refl, refl)

pub loop-j-preserved : goal.loop-j-preserved
loop-j-preserved c =
    let at = c.loop-j in (
      rw at.invariant.0 (place_more _ at.j (omega arith)),
      rw at.invariant.1 (place_more _ at.j (omega arith)),
    )

pub returns : goal.returns
unfolding value_of
returns c =
    let end = c.loop-j in
    let all : end.j ≡ most_riders = omega arith in
    rw (end.invariant.0, end.invariant.1, all)
