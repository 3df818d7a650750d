-- Each fault has a number of its own.
use Prim.Native.Nat.{ℕ}
use mathlib.Core.Path.{◌≡◌, refl, sym, ◌∙◌, ap}
use mathlib.Core.Bool.{cond}
use mathlib.Core.List.{List, [], ◌∷◌}
use lib.Dec.{eqb}
use Rattle.rules.specs.Checks.{number_of}
use Rattle.rules.specs.declared.refusal.Fault.{Fault}
use Rattle.rules.specs.declared.refusal.Fault.TheVariants

-- the first of some faults that has a number, or else NetworkShort
abbrev numbered_in : List Fault → ℕ → Fault
numbered_in [] number = TheVariants.NetworkShort
numbered_in (f ∷ fs) number = cond (eqb (number_of f) number) f (numbered_in fs number)

abbrev numbered : ℕ → Fault
numbered =
    numbered_in
    (TheVariants.NetworkShort ∷ TheVariants.NetworkVersion ∷ TheVariants.NetworkLength ∷ TheVariants.NetworkLimits ∷
    TheVariants.NetworkParts ∷ TheVariants.LinkNode ∷ TheVariants.RequestShort ∷ TheVariants.RequestVersion ∷
    TheVariants.RequestLength ∷ TheVariants.ManyRiders ∷ TheVariants.RequestParts ∷ TheVariants.RequestNode ∷
    TheVariants.RequestWeight ∷ TheVariants.DistancesRoom ∷ TheVariants.TableRoom ∷ TheVariants.StepsRoom ∷ TheVariants.NoRoute ∷
    TheVariants.MeetingRoom ∷ TheVariants.LongRoute ∷ TheVariants.UnknownLink ∷ TheVariants.ClosedLink ∷ TheVariants.LinkStart ∷
    TheVariants.RouteEnd ∷ TheVariants.NoWalk ∷ TheVariants.OddRoute ∷ TheVariants.WalkStart ∷ TheVariants.WalkRoom ∷
    TheVariants.GivenNumber ∷ TheVariants.GivenNode ∷ TheVariants.RecordRoom ∷ [])

told : (f : Fault) → numbered (number_of f) ≡ f
told TheVariants.NetworkShort = refl
told TheVariants.NetworkVersion = refl
told TheVariants.NetworkLength = refl
told TheVariants.NetworkLimits = refl
told TheVariants.NetworkParts = refl
told TheVariants.LinkNode = refl
told TheVariants.RequestShort = refl
told TheVariants.RequestVersion = refl
told TheVariants.RequestLength = refl
told TheVariants.ManyRiders = refl
told TheVariants.RequestParts = refl
told TheVariants.RequestNode = refl
told TheVariants.RequestWeight = refl
told TheVariants.DistancesRoom = refl
told TheVariants.TableRoom = refl
told TheVariants.StepsRoom = refl
told TheVariants.NoRoute = refl
told TheVariants.MeetingRoom = refl
told TheVariants.LongRoute = refl
told TheVariants.UnknownLink = refl
told TheVariants.ClosedLink = refl
told TheVariants.LinkStart = refl
told TheVariants.RouteEnd = refl
told TheVariants.NoWalk = refl
told TheVariants.OddRoute = refl
told TheVariants.WalkStart = refl
told TheVariants.WalkRoom = refl
told TheVariants.GivenNumber = refl
told TheVariants.GivenNode = refl
told TheVariants.RecordRoom = refl

pub fault_told_apart : (a b : Fault) → number_of a ≡ number_of b → a ≡ b
fault_told_apart a b e = sym (told a) ∙ ap numbered e ∙ told b
