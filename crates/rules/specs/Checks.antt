-- Checks in their order (4.1): the first that applies is the refusal.
use Rattle.std.specs.Prelude.{ℕ, zero, suc, Bool, not, ◌||◌, cond, List, [], ◌∷◌, ◌++◌, Result, Ok, Err, ltb, eqb}
use Rattle.rules.specs.declared.refusal.Fault.{Fault}
use Rattle.rules.specs.declared.refusal.Fault.TheVariants
use Rattle.rules.specs.declared.refusal.Refusal.{Refusal}

-- the number of each fault in the tables of refusals
abbrev pub number_of : Fault → ℕ
number_of TheVariants.NetworkShort = 1
number_of TheVariants.NetworkVersion = 2
number_of TheVariants.NetworkLength = 3
number_of TheVariants.NetworkLimits = 4
number_of TheVariants.NetworkParts = 5
number_of TheVariants.LinkNode = 6
number_of TheVariants.RequestShort = 11
number_of TheVariants.RequestVersion = 12
number_of TheVariants.RequestLength = 13
number_of TheVariants.ManyRiders = 14
number_of TheVariants.RequestParts = 15
number_of TheVariants.RequestNode = 16
number_of TheVariants.RequestWeight = 17
number_of TheVariants.DistancesRoom = 21
number_of TheVariants.TableRoom = 22
number_of TheVariants.StepsRoom = 23
number_of TheVariants.NoRoute = 24
number_of TheVariants.MeetingRoom = 31
number_of TheVariants.LongRoute = 32
number_of TheVariants.UnknownLink = 33
number_of TheVariants.ClosedLink = 34
number_of TheVariants.LinkStart = 35
number_of TheVariants.RouteEnd = 36
number_of TheVariants.NoWalk = 37
number_of TheVariants.OddRoute = 38
number_of TheVariants.WalkStart = 41
number_of TheVariants.WalkRoom = 42
number_of TheVariants.GivenNumber = 81
number_of TheVariants.GivenNode = 82
number_of TheVariants.RecordRoom = 83

-- A check: what is wrong where it applies, at which place, and whether it applies.
pub record Check : Type 0 where
  pub fault : Fault
  pub place : ℕ
  pub applies : Bool

abbrev pub check : Fault → ℕ → Bool → Check
check fault place applies = record { fault = fault; place = place; applies = applies }

abbrev pub refuse : Fault → ℕ → Refusal
refuse fault place = record { fault = fault; place = place }

-- What checks come to: a refusal, or none.
abbrev pub Verdict : Type 0
Verdict = Result Unit Refusal

abbrev pub Accepted : Verdict
Accepted = Ok tt

unfoldable pub first_of : List Check → Verdict
first_of [] = Accepted
first_of (c ∷ cs) = cond c.applies (Err (refuse c.fault c.place)) (first_of cs)

-- The checks of `count` things in a row, from number `first` on: the lowest that applies comes first.
unfoldable pub each : (ℕ → List Check) → ℕ → ℕ → List Check
each checks zero first = []
each checks (suc count) first = checks first ++ each checks count (suc first)

-- Tests that the checks share.
abbrev pub differ : ℕ → ℕ → Bool
differ x y = not (eqb x y)

abbrev pub outside : ℕ → ℕ → ℕ → Bool
outside low high x = ltb x low || ltb high x

-- What stands beside a verdict: the value where it is accepted, and nothing where it is refused.
abbrev pub beside : {A : Type 0} → Verdict → A → A → A
beside (Ok passed) value nothing = value
beside (Err r) value nothing = nothing
