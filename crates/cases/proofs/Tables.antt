-- Every case of both tables holds.
use Prim.Native.Nat.{ℕ}
use mathlib.Core.Path.{◌≡◌, refl}
use mathlib.Core.Bool.{true}
use mathlib.Core.List.{map}
use Rattle.cases.specs.Cases.{Holds, AtRow}
use Rattle.cases.specs.TownRows.{town_rows}
use Rattle.cases.specs.OwnRows.{own_rows}
use Rattle.cases.proofs.Certificate.{certified}
use Rattle.cases.proofs.CaseLaws.{every_holds}

town_certified : map certified town_rows ≡ map (λ c. true) town_rows
unfolding certified
town_certified = refl

-- Cases A to K: row 0 is A, row 10 is K.
pub town_holds : (i : ℕ) → AtRow Holds town_rows i
town_holds = every_holds town_rows town_certified

own_certified : map certified own_rows ≡ map (λ c. true) own_rows
unfolding certified
own_certified = refl

-- The cases beside them.
pub own_holds : (i : ℕ) → AtRow Holds own_rows i
own_holds = every_holds own_rows own_certified
