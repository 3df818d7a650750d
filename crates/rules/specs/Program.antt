-- The program `plan`: how it parts its input, and what it prints.
use Rattle.std.specs.Prelude.{ℕ, zero, suc, ◌+◌, ◌-◌, ◌*◌, ◌/◌, ◌%◌, ◌≡◌, ◌||◌, cond, List, [], ◌∷◌, ◌++◌, length, get_or, take, drop, replicate, ltb}
use Rattle.rules.specs.Limits.{most_nodes, most_links, most_riders, first_drive}
use Rattle.rules.specs.Network.{stated_length, link_start, node_count, from, to}
use Rattle.rules.specs.Request.{rider_start, source}
use Rattle.rules.specs.Rooms.{distance_places, step_places, Lent, lent}
use Rattle.rules.specs.Answers.{Outcome, gives, refuses, Searched}

-- It takes a byte more than the two longest records have, so that a longer input is seen to be one; of that, the network is as long
-- as it states, or all where that is more than there is; the request is what follows (6.1).
abbrev pub most_input : ℕ
most_input = link_start most_links + rider_start most_riders + 1

abbrev pub taken : List ℕ → List ℕ
taken input = take most_input input

abbrev pub network_size : List ℕ → ℕ
network_size bytes =
    cond (ltb (length bytes) 5 || ltb (length bytes) (stated_length 4 bytes)) (length bytes) (stated_length 4 bytes)

abbrev pub network_part : List ℕ → List ℕ
network_part input = take (network_size (taken input)) (taken input)

abbrev pub request_part : List ℕ → List ℕ
request_part input = drop (network_size (taken input)) (taken input)

-- the rooms that the search is lent (6.2)
abbrev pub program_table : ℕ
program_table = 2048

abbrev pub program_rooms : Lent
program_rooms =
    lent (replicate (distance_places most_nodes most_riders) 0) (replicate program_table 0) (replicate (step_places most_nodes most_riders) 0)

-- the decimal digits of a number below 10 ^ (places + 1), with no zero in front (6.3)
unfoldable pub digits : ℕ → ℕ → List ℕ
digits zero x = (48 + x % 10) ∷ []
digits (suc places) x = cond (ltb x 10) ((48 + x) ∷ []) (digits places (x / 10) ++ (48 + x % 10) ∷ [])

abbrev pub decimal : ℕ → List ℕ
decimal x = digits 19 x

-- A line is a word and numbers, each behind a space, and a line feed (6.3).
unfoldable pub fields : List ℕ → List ℕ
fields [] = 10 ∷ []
fields (x ∷ xs) = 32 ∷ decimal x ++ fields xs

abbrev pub line : List ℕ → List ℕ → List ℕ
line word numbers = word ++ fields numbers

-- the words ok, drive, meet and refused
abbrev pub ok_word : List ℕ
ok_word = 111 ∷ 107 ∷ []

abbrev pub drive_word : List ℕ
drive_word = 100 ∷ 114 ∷ 105 ∷ 118 ∷ 101 ∷ []

abbrev pub meet_word : List ℕ
meet_word = 109 ∷ 101 ∷ 101 ∷ 116 ∷ []

abbrev pub refused_word : List ℕ
refused_word = 114 ∷ 101 ∷ 102 ∷ 117 ∷ 115 ∷ 101 ∷ 100 ∷ []

-- The line of a step from the node v: rider, node and distance, or link, start and end.
abbrev pub step_line : List ℕ → List ℕ → ℕ → ℕ → List ℕ
step_line network distances v step =
    cond (ltb step first_drive)
    (line meet_word (step ∷ v ∷ get_or distances (step * node_count network + v) 0 ∷ []))
    (line drive_word ((step - first_drive) ∷ from network (step - first_drive) ∷ to network (step - first_drive) ∷ []))

-- where the bus stands after a step from the node v
abbrev pub node_after : List ℕ → ℕ → ℕ → ℕ
node_after network v step = cond (ltb step first_drive) v (to network (step - first_drive))

unfoldable pub step_lines : List ℕ → List ℕ → ℕ → List ℕ → List ℕ
step_lines network distances v [] = []
step_lines network distances v (step ∷ steps) =
    step_line network distances v step ++ step_lines network distances (node_after network v step) steps

-- The text of an answer: the values and a line for each of so many steps, or the refusal.
unfoldable pub answer_text : List ℕ → ℕ → Outcome → List ℕ → List ℕ → List ℕ
answer_text network source (gives values) distances steps =
    line ok_word values ++ step_lines network distances source (take (get_or values 1 0) steps)
answer_text network source (refuses number place) distances steps = line refused_word (number ∷ place ∷ [])

-- The program's text for two records: what the search answers in these rooms, with the steps and distances that it leaves there.
pub record PlanText (network request text : List ℕ) : Type 0 where
  pub answer : Outcome
  pub after : Lent
  pub searched : Searched network request program_rooms after answer
  pub says : text ≡ answer_text network (source request) answer after.distances after.steps

abbrev pub ProgramText : List ℕ → List ℕ → Type 0
ProgramText input text = PlanText (network_part input) (request_part input) text
