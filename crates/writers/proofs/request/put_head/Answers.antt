-- Each number stands behind the one before it.
use native.Mathlib.Omega.{arith}
use Rattle.rules.specs.Numbers.{bytes_of}
use Rattle.rules.proofs.PuttingLaws.{put_then}
use Rattle.writers.proofs.request.put_head.Goals as goal

pub put_number-source_end-requires : goal.put_number-source_end-requires
unfolding bytes_of
put_number-source_end-requires c =
    let opening = c.put_opening-opening_end.ensures in
    omega (arith, opening.ends, opening.size)

pub put_number-target_end-requires : goal.put_number-target_end-requires
unfolding bytes_of
put_number-target_end-requires c =
    let source = put_then c.put_opening-opening_end.ensures c.put_number-source_end.ensures in
    omega (arith, source.ends, source.size)

pub put_number-weight_end-requires : goal.put_number-weight_end-requires
unfolding bytes_of
put_number-weight_end-requires c =
    let source = put_then c.put_opening-opening_end.ensures c.put_number-source_end.ensures in
    let target = put_then source c.put_number-target_end.ensures in
    omega (arith, target.ends, target.size)

pub put_number-requires : goal.put_number-requires
unfolding bytes_of
put_number-requires c =
    let source = put_then c.put_opening-opening_end.ensures c.put_number-source_end.ensures in
    let target = put_then source c.put_number-target_end.ensures in
    let weight = put_then target c.put_number-weight_end.ensures in
    omega (arith, weight.ends, weight.size)

pub returns : goal.returns
returns c =
    let source = put_then c.put_opening-opening_end.ensures c.put_number-source_end.ensures in
    let target = put_then source c.put_number-target_end.ensures in
    let weight = put_then target c.put_number-weight_end.ensures in
    rw (← c.rider_start.ensures) (put_then weight c.put_number.ensures)
