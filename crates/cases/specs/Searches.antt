-- Searches of a case, and wrong ends of them.
use Rattle.std.specs.Prelude.{ℕ, ◌<◌, ◌≤◌, ◌≡◌, ◌≢◌, List, [], ◌∷◌, ◌++◌, length, drop, replicate}
use Rattle.rules.specs.Network.{node_count}
use Rattle.rules.specs.Request.{rider_count_of}
use Rattle.rules.specs.Routes.{node_at}
use Rattle.rules.specs.Rooms.{Written, step_places, Lent, lent, Enough}
use Rattle.rules.specs.Answers.{Outcome, gives, refuses, Searched}
use Rattle.cases.specs.Cases.{Result, plan, none, Case, asked, distance_need, table_need}

abbrev pub answer_of : Result → Outcome
answer_of (plan cost steps) = gives (cost ∷ length steps ∷ [])
answer_of none = refuses 24 0

abbrev pub steps_of : Result → List ℕ
steps_of (plan cost steps) = steps
steps_of none = []

abbrev pub EnoughFor : Case → Lent → Type 0
EnoughFor c before = Enough (node_count c.network) (rider_count_of (asked c)) before

-- rooms of exactly so many places, all zero
abbrev pub zeros : Case → Lent
zeros c =
    lent (replicate (distance_need c) 0) (replicate (table_need c) 0)
    (replicate (step_places (node_count c.network) (rider_count_of (asked c))) 0)

abbrev pub over : List ℕ → List ℕ → List ℕ
over values room = values ++ drop (length values) room

-- what the search of a case leaves in the rooms
abbrev pub leaves : Case → Lent → Lent
leaves c before =
    lent (over c.distances before.distances) (over c.table before.table) (over (steps_of c.result) before.steps)

abbrev pub SearchedCase : Case → Lent → Lent → Outcome → Type 0
SearchedCase c before after answer = Searched c.network c.request before after answer

-- No search of the case that keeps its promise ends with this result.
abbrev pub Fails : Case → Result → Type 0
Fails c wrong =
    (before after : Lent)
    → EnoughFor c before
    → SearchedCase c before after (answer_of wrong)
    → Written (steps_of wrong) before.steps after.steps
    → ⊥

-- What answers every search: an answer, and what it leaves in the rooms.
pub record Reply : Type 0 where
  pub answer : Outcome
  pub after : Lent

abbrev pub Planner : Type 0
Planner = List ℕ → List ℕ → Lent → Reply

abbrev pub reply_at : Planner → Case → Lent → Reply
reply_at p c before = p c.network c.request before

abbrev pub Answers : Planner → Case → Lent → Outcome → Type 0
Answers p c before answer = (reply_at p c before).answer ≡ answer

-- The planner keeps the search's promise at the case.
abbrev pub Keeps : Planner → Case → Lent → Type 0
Keeps p c before = SearchedCase c before (reply_at p c before).after (reply_at p c before).answer

-- the node at a position of a route
abbrev pub row_node : Case → List ℕ → ℕ → ℕ
row_node c route position = node_at c.network (asked c).source route position

-- No node is at two positions of the route.
abbrev pub NoNodeTwice : Case → List ℕ → Type 0
NoNodeTwice c route = (i j : ℕ) → i < j → j ≤ length route → row_node c route i ≢ row_node c route j

-- The route is at the target at no position but its last.
abbrev pub EndsAtTarget : Case → List ℕ → Type 0
EndsAtTarget c route = (i : ℕ) → i < length route → row_node c route i ≢ (asked c).target
