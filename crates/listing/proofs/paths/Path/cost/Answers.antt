use Rattle.std.proofs.Common.{rules, arith, refl}
use Rattle.std.proofs.lemmas.Iterator.Adapters.{fits_from_length, at_most_from_yields_List}
use Rattle.std.proofs.lemmas.Iterator.{YieldsList-from_slice}
use Rattle.listing.proofs.paths.Path.cost.Goals as goal

pub sum-requires-clause-fits : goal.sum-requires-clause-fits
sum-requires-clause-fits c = fits_from_length _ _ 9 _ (at_most_from_yields_List (YieldsList-from_slice _ refl) (grind arith))
    c.map.ensures.closure (omega arith) (λ x r q k. search rules)
