use mathlib.Core.Path.{refl}
use Rattle.desk.proofs.Numbers.{price_refusal}
use Rattle.desk.proofs.tivelgor_price.Goals as goal

pub refusal_told-requires : goal.refusal_told-requires
refusal_told-requires c = ((price_refusal c.in-Err.ensures).small _ _ refl).1
