use mathlib.Core.Path.{refl}
use Rattle.desk.proofs.Numbers.{walk_refusal}
use Rattle.desk.proofs.tivelgor_walk.Goals as goal

pub refusal_told-requires : goal.refusal_told-requires
refusal_told-requires c = ((walk_refusal c.in-Err.ensures).small _ _ refl).1
