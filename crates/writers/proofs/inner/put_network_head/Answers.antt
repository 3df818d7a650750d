-- Each number stands behind the one before it.
use native.Mathlib.Omega.{arith}
use Rattle.rules.specs.Numbers.{bytes_of}
use Rattle.rules.proofs.PuttingLaws.{put_then}
use Rattle.writers.proofs.inner.put_network_head.Goals as goal

pub put_number-nodes_end-requires : goal.put_number-nodes_end-requires
unfolding bytes_of
put_number-nodes_end-requires c =
    let opening = c.put_opening-opening_end.ensures in
    omega (arith, opening.ends, opening.size)

pub put_number-requires : goal.put_number-requires
unfolding bytes_of
put_number-requires c =
    let nodes = put_then c.put_opening-opening_end.ensures c.put_number-nodes_end.ensures in
    omega (arith, nodes.ends, nodes.size)

pub returns : goal.returns
returns c =
    rw (← c.link_start.ensures)
    (put_then (put_then c.put_opening-opening_end.ensures c.put_number-nodes_end.ensures) c.put_number.ensures)
