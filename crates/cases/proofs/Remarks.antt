-- What is said of the cases besides their results (5.3).
use Prim.Native.Nat.{ℕ}
use native.Mathlib.Omega.{arith}
use mathlib.Core.Path.{◌≡◌, refl, ap}
use mathlib.Core.List.{[], ◌∷◌}
use lib.ListN.{get_or, take}
use Rattle.rules.specs.Numbers.{number, bytes_of, twos_of}
use Rattle.rules.specs.Request.{request_value, riders_from}
use Rattle.rules.specs.Routes.{Price}
use Rattle.rules.specs.Rooms.{HoldsFinish, Lent}
use Rattle.rules.specs.Answers.{Outcome, gives, Searched}
use Rattle.rules.specs.Town.{town, case_a}
use Rattle.cases.specs.Cases.{asked}
use Rattle.cases.specs.TownRows.{row_a, row_d, row_k}
use Rattle.cases.specs.Searches.{EnoughFor, leaves}
use Rattle.cases.proofs.Certificate.{priced_at}
use Rattle.cases.proofs.CaseLaws.{case_priced}
use Rattle.cases.proofs.SearchLaws.{searched_case}
use Rattle.cases.proofs.Tables.{town_holds}

-- Three places of the table in case A: place R·n+v, with n = 5.
pub place_5 : HoldsFinish town (request_value case_a) 1 0 32771
unfolding number request_value bytes_of twos_of riders_from
place_5 = (town_holds 0).table 1 0 (omega arith) (omega arith)

pub place_1 : HoldsFinish town (request_value case_a) 0 1 12289
unfolding number request_value bytes_of twos_of riders_from
place_1 = (town_holds 0).table 0 1 (omega arith) (omega arith)

pub place_3 : HoldsFinish town (request_value case_a) 0 3 0
unfolding number request_value bytes_of twos_of riders_from
place_3 = (town_holds 0).table 0 3 (omega arith) (omega arith)

-- So a search of case A leaves them there, beside its answer and its steps.
pub searched_A : {before after : Lent} {answer : Outcome} → EnoughFor row_a before → Searched town case_a before after answer
    → (answer ≡ gives (8 ∷ 3 ∷ []))
    × (get_or after.table 5 0 ≡ 32771)
    × (get_or after.table 1 0 ≡ 12289)
    × (get_or after.table 3 0 ≡ 0)
    × (take 3 after.steps ≡ 8 ∷ 0 ∷ 9 ∷ [])
searched_A {before} {after} enough s =
    let (rooms, answer) = searched_case (town_holds 0) enough s in
    (answer, place 5 rooms, place 1 rooms, place 3 rooms, ap (λ (l : Lent). take 3 l.steps) rooms)
  where
    place : (i : ℕ) → after ≡ leaves row_a before → get_or after.table i 0 ≡ get_or (leaves row_a before).table i 0
    place i rooms = ap (λ (l : Lent). get_or l.table i 0) rooms

-- The route along links 2 and 3 costs 15 in case A, and meets the rider at position 1.
pub price_in_A : Price town (request_value case_a) (2 ∷ 3 ∷ []) (1 ∷ []) 15
unfolding priced_at
price_in_A = case_priced (town_holds 0) (2 ∷ 3 ∷ []) (1 ∷ []) refl

-- The route of case B costs as much in case D as the right one, 22.
pub price_in_D : Price town (asked row_d) (2 ∷ 7 ∷ 5 ∷ 3 ∷ []) (2 ∷ []) 22
unfolding priced_at
price_in_D = case_priced (town_holds 3) (2 ∷ 7 ∷ 5 ∷ 3 ∷ []) (2 ∷ []) refl

-- Where the bus stays, the rider of case K walks to it for 18.
pub price_in_K : Price town (asked row_k) [] (0 ∷ []) 18
unfolding priced_at
price_in_K = case_priced (town_holds 10) [] (0 ∷ []) refl
