use native.Mathlib.Omega.{arith}
use mathlib.Core.Path.{◌≡◌, refl}
use Rattle.rules.specs.Request.{seven_places, request_value}
use Rattle.rules.proofs.SoundRequestLaws.{place_more}
use Rattle.records.proofs.request.request_value.Goals as goal

pub loop-j-init : goal.loop-j-init
unfolding seven_places
loop-j-init c = (refl, refl)

pub loop-j-preserved : goal.loop-j-preserved
loop-j-preserved c =
    let at = c.loop-j in (
      rw (c.rider_node.ensures.value, at.invariant.0) (place_more _ at.j (omega arith)),
      rw (c.rider_weight.ensures.value, at.invariant.1) (place_more _ at.j (omega arith)),
    )

pub returns : goal.returns
unfolding request_value
returns c =
    let all : c.loop-j.j ≡ c.rider_count-count.result = omega arith in
    rw (c.request_source.ensures.value, c.request_target.ensures.value, c.bus_weight.ensures.value)
    (rw (c.loop-j.invariant.0, c.loop-j.invariant.1, all, c.rider_count-count.ensures.value))
