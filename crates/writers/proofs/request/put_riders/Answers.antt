use mathlib.Core.Path.{◌≡◌}
use native.Mathlib.Omega.{arith}
use borrow.Author.Rules.{rules}
use Rattle.rules.specs.Request.{rider_count_of}
use Rattle.writers.proofs.PieceLaws.{put_end, riders_none, riders_end, riders_one}
use Rattle.writers.proofs.request.put_riders.Goals as goal

pub loop-j-init : goal.loop-j-init
loop-j-init c = riders_none (omega arith)

pub put_number-node_end-requires : goal.put_number-node_end-requires
put_number-node_end-requires c =
    omega (arith, riders_end c.loop-j.invariant, c.loop-j.invariant.put.size)

pub put_number-end-requires : goal.put_number-end-requires
put_number-end-requires c =
    let node = c.put_number-node_end.ensures in
    omega (arith, riders_end c.loop-j.invariant, c.loop-j.invariant.put.size, put_end 2 _ node, node.size)

pub loop-j-preserved : goal.loop-j-preserved
loop-j-preserved c = riders_one c.loop-j.invariant (search rules) c.put_number-node_end.ensures c.put_number-end.ensures

pub shape_of-room : goal.shape_of-room
shape_of-room c = c.loop-j.invariant.put.size

pub returns : goal.returns
returns c =
    let here = c.loop-j in
    let all : here.j ≡ rider_count_of c.args.request = omega (arith, here.invariant.within) in
    rw all at here.invariant.put
