use native.Mathlib.Omega.{arith}
use native.Mathlib.Nat.{pow-le-pow_right}
use Prim.Native.Nat.{◌^◌, ◌<◌}
use Rattle.records.proofs.NumberLaws.{read_none, read_more}
use Rattle.records.proofs.inner.number.Goals as goal
use Rattle.records.proofs.inner.number.Goals.{In-loop-k}

pub loop-k-init : goal.loop-k-init
loop-k-init c = read_none _ _

-- up to four bytes fit
small : (c : In-loop-k) → c.loop-k.x < 256 ^ 3
small c = omega (arith, pow-le-pow_right {n = 256} (omega arith) {i = c.loop-k.k} {j = 3} (omega arith))

pub loop-k-preserved : goal.loop-k-preserved
loop-k-preserved c = read_more _ _ _ c.loop-k.invariant c.byte.ensures.value c.byte.ensures.below

pub overflow_mul-x : goal.overflow_mul-x
overflow_mul-x c = omega (arith, small (goal.at.overflow_mul-x c).In-loop-k)

pub overflow_add-x : goal.overflow_add-x
overflow_add-x c = omega (arith, small (goal.at.overflow_add-x c).In-loop-k)
