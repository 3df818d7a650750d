use native.Mathlib.Omega.{arith}
use mathlib.Core.Path.{refl}
use Rattle.desk.proofs.Numbers.{plan_refusal, plan_bounded}
use Rattle.desk.proofs.tivelgor_search.Goals as goal

pub refusal_told-requires : goal.refusal_told-requires
refusal_told-requires c = ((plan_refusal _ c.in-Err.ensures).small _ _ refl).1

pub overflow_mul-result : goal.overflow_mul-result
overflow_mul-result c = omega (arith, plan_bounded _ c.in-Ok.ensures refl)

pub overflow_add-result : goal.overflow_add-result
overflow_add-result c = omega (arith, plan_bounded _ c.in-Ok.ensures refl)
