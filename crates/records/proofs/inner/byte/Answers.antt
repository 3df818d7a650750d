-- A byte of a slice is below 256.
use native.Mathlib.Omega.{arith}
use mathlib.Core.Path.{refl}
use Rattle.records.proofs.inner.byte.Goals as goal

pub returns : goal.returns
returns c = record { value = refl; below = omega (arith, c.type_inv.s c.args.i) }

pub overflow_cast-result : goal.overflow_cast-result
overflow_cast-result c = omega (arith, c.type_inv.s c.args.i)
