use native.Mathlib.Omega.{arith}
use mathlib.Core.Path.{refl}
use borrow.Author.Rules.{rules}
use Rattle.writers.proofs.PieceLaws.{twos_none, twos_end, twos_one, twos_all}
use Rattle.writers.proofs.inner.put_twos.Goals as goal

pub loop-x-init : goal.loop-x-init
loop-x-init c = twos_none (omega arith)

pub put_number-end-requires : goal.put_number-end-requires
put_number-end-requires c =
    omega (arith, twos_end c.loop-x.invariant, c.loop-x.invariant.put.size)

pub loop-x-preserved : goal.loop-x-preserved
loop-x-preserved c =
    twos_one c.loop-x.invariant (search rules) refl c.put_number-end.ensures

pub shape_of-room : goal.shape_of-room
shape_of-room c = c.loop-x.invariant.put.size

pub returns : goal.returns
returns c = twos_all c.loop-x.invariant (search rules)
