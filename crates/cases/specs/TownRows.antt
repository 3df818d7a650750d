-- The cases of the small town (5.2), gathered in a table.
use Rattle.std.specs.Prelude.{List, [], ◌∷◌, ◌++◌, ℕ}
use Rattle.rules.specs.Limits.{pack}
use Rattle.rules.specs.Rooms.{no_finish}
use Rattle.rules.specs.Town.{town, request, rider}
use Rattle.cases.specs.Cases.{Result, plan, none, Case}

abbrev in_town : List ℕ → Result → List ℕ → List ℕ → Case
in_town request result distances table =
    record { network = town; request = request; result = result; distances = distances; table = table }

-- the walking distances of a rider at 4, and of one at 3
abbrev walks_from4 : List ℕ
walks_from4 = 11 ∷ 2 ∷ 6 ∷ 11 ∷ 0 ∷ []

abbrev walks_from3 : List ℕ
walks_from3 = 18 ∷ 9 ∷ 9 ∷ 0 ∷ 11 ∷ []

-- the row of nobody, for the target 3 and a bus of weight 1, and for the target 0
abbrev drives_to3 : List ℕ
drives_to3 = pack 6 2 ∷ pack 3 1 ∷ pack 4 1 ∷ 0 ∷ pack 5 2 ∷ []

abbrev drives_to0 : List ℕ
drives_to0 = 0 ∷ no_finish ∷ no_finish ∷ no_finish ∷ no_finish ∷ []

-- case A: a light rider at 4
abbrev pub row_a : Case
row_a =
    in_town (request 0 3 1 (rider 4 1)) (plan 8 (8 ∷ 0 ∷ 9 ∷ []))
    walks_from4
    (drives_to3 ++ pack 8 3 ∷ pack 5 2 ∷ pack 6 4 ∷ pack 11 1 ∷ pack 5 3 ∷ [])

-- case B: a heavy rider at 4
abbrev pub row_b : Case
row_b =
    in_town (request 0 3 1 (rider 4 10)) (plan 11 (10 ∷ 15 ∷ 0 ∷ 13 ∷ 11 ∷ []))
    walks_from4
    (drives_to3 ++ pack 11 5 ∷ pack 23 2 ∷ pack 6 4 ∷ pack 110 1 ∷ pack 5 3 ∷ [])

-- case C: one of weight 2
abbrev pub row_c : Case
row_c =
    in_town (request 0 3 1 (rider 4 2)) (plan 10 (8 ∷ 0 ∷ 9 ∷ []))
    walks_from4
    (drives_to3 ++ pack 10 3 ∷ pack 7 2 ∷ pack 6 4 ∷ pack 22 1 ∷ pack 5 3 ∷ [])

-- case D: one of weight 5, and a bus of weight 2
abbrev pub row_d : Case
row_d =
    in_town (request 0 3 2 (rider 4 5)) (plan 22 (8 ∷ 0 ∷ 9 ∷ []))
    walks_from4
    (pack 12 2 ∷ pack 6 1 ∷ pack 8 1 ∷ 0 ∷ pack 10 2 ∷ pack 22 3 ∷ pack 16 2 ∷ pack 12 4 ∷ pack 55 1 ∷ pack 10 3 ∷ [])

-- case E: nobody, and nowhere to go
abbrev pub row_e : Case
row_e =
    in_town (request 0 0 1 []) (plan 0 [])
    []
    drives_to0

-- case F: nobody, and no drive there
abbrev pub row_f : Case
row_f =
    in_town (request 3 0 1 []) none
    []
    drives_to0

-- case G: a rider at the source
abbrev pub row_g : Case
row_g =
    in_town (request 0 3 1 (rider 0 1)) (plan 6 (0 ∷ 8 ∷ 9 ∷ []))
    (0 ∷ 9 ∷ 17 ∷ 18 ∷ 11 ∷ [])
    (drives_to3 ++ pack 6 3 ∷ pack 12 2 ∷ pack 17 4 ∷ pack 18 1 ∷ pack 16 3 ∷ [])

-- case H: a rider at the target
abbrev pub row_h : Case
row_h =
    in_town (request 0 3 1 (rider 3 1)) (plan 6 (8 ∷ 9 ∷ 0 ∷ []))
    walks_from3
    (drives_to3 ++ pack 6 3 ∷ pack 3 2 ∷ pack 4 2 ∷ pack 0 1 ∷ pack 5 3 ∷ [])

-- case I: two light riders at 4
abbrev pub row_i : Case
row_i =
    in_town (request 0 3 1 (rider 4 1 ++ rider 4 1)) (plan 10 (8 ∷ 0 ∷ 1 ∷ 9 ∷ []))
    (walks_from4 ++ walks_from4)
    (drives_to3
    ++ pack 8 3 ∷ pack 5 2 ∷ pack 6 4 ∷ pack 11 1 ∷ pack 5 3
    ∷ pack 8 3 ∷ pack 5 2 ∷ pack 6 4 ∷ pack 11 1 ∷ pack 5 3
    ∷ pack 10 4 ∷ pack 7 3 ∷ pack 6 5 ∷ pack 22 2 ∷ pack 5 4 ∷ [])

-- case J: two at 4, the second heavier
abbrev pub row_j : Case
row_j =
    in_town (request 0 3 1 (rider 4 1 ++ rider 4 2)) (plan 11 (10 ∷ 15 ∷ 0 ∷ 1 ∷ 13 ∷ 11 ∷ []))
    (walks_from4 ++ walks_from4)
    (drives_to3
    ++ pack 8 3 ∷ pack 5 2 ∷ pack 6 4 ∷ pack 11 1 ∷ pack 5 3
    ∷ pack 10 3 ∷ pack 7 2 ∷ pack 6 4 ∷ pack 22 1 ∷ pack 5 3
    ∷ pack 11 6 ∷ pack 9 3 ∷ pack 6 5 ∷ pack 33 2 ∷ pack 5 4 ∷ [])

-- case K: nowhere to go, and a rider who walks there up two links
abbrev pub row_k : Case
row_k =
    in_town (request 0 0 1 (rider 3 1)) (plan 18 (0 ∷ []))
    walks_from3
    (drives_to0 ++ pack 18 1 ∷ no_finish ∷ no_finish ∷ no_finish ∷ no_finish ∷ [])

abbrev pub town_rows : List Case
town_rows = row_a ∷ row_b ∷ row_c ∷ row_d ∷ row_e ∷ row_f ∷ row_g ∷ row_h ∷ row_i ∷ row_j ∷ row_k ∷ []
