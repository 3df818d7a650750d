-- What the walking entry, pricing, the tablet's entry and the search answer, and what each leaves in the rooms that it is lent.
use Rattle.std.specs.Prelude.{ℕ, zero, suc, ◌+◌, ◌*◌, ◌/◌, ◌%◌, ◌<◌, ◌≡◌, List, [], ◌∷◌, ◌++◌, Result, Ok, Err, length, get_or, ltb, leb}
use Rattle.rules.specs.Checks.{Verdict, Accepted, Check, check, number_of, first_of, differ, beside}
use Rattle.rules.specs.Limits.{first_refusal}
use Rattle.rules.specs.Numbers.{two}
use Rattle.rules.specs.Network.{node_count, network_checks}
use Rattle.rules.specs.Request.{record_checks, request_value, rider_count_of}
use Rattle.rules.specs.Walks.{HoldsDistance}
use Rattle.rules.specs.Routes.{Price, Stranded, route_checks}
use Rattle.rules.specs.Plans.{RightPlan, NoPlan}
use Rattle.rules.specs.Rooms.{Kept, Written, Distances, Table, distance_places, table_places, step_places, Lent}
use Rattle.rules.specs.declared.refusal.Refusal.{Refusal}
use Rattle.rules.specs.declared.NetworkRead.{NetworkRead}
use Rattle.rules.specs.declared.Request.{Request}
use Rattle.rules.specs.declared.RequestRead.{RequestRead}
use Rattle.rules.specs.declared.Plan.{Plan}
use Rattle.rules.specs.declared.refusal.Fault.TheVariants.{DistancesRoom, MeetingRoom, OddRoute, StepsRoom, TableRoom, WalkRoom, WalkStart}

-- An answer in the rules' terms: the values that it gives, or a refusal's number and place.
pub data Outcome : Type 0 where
  gives : (values : List ℕ) → Outcome
  refuses : (number place : ℕ) → Outcome

-- a refusal by its number (4.2 to 4.7, 4.12)
abbrev pub refusal_outcome : Refusal → Outcome
refusal_outcome r = refuses (number_of r.fault) r.place

-- The outcome of a verdict that comes with values:
abbrev pub outcome_of : Verdict → List ℕ → Outcome
outcome_of (Ok passed) values = gives values
outcome_of (Err r) values = refusal_outcome r

-- of the walking entry, 0 (2.3);
abbrev pub verdict_outcome : Verdict → Outcome
verdict_outcome verdict = outcome_of verdict (0 ∷ [])

-- of the readers, n and m (1.8), and the rider count.
abbrev pub network_outcome : NetworkRead → Outcome
network_outcome read = outcome_of read.verdict (read.n ∷ read.m ∷ [])

abbrev pub request_outcome : RequestRead → Outcome
request_outcome read = outcome_of read.verdict (rider_count_of read.request ∷ [])

-- The outcome of what gives one number: pricing a price (4.9), and writing the record's length (1.12);
abbrev pub number_outcome : Result ℕ Refusal → Outcome
number_outcome (Ok x) = gives (x ∷ [])
number_outcome (Err r) = refusal_outcome r

-- and of the search, a cost and its number of steps (4.4).
abbrev pub planned_outcome : Result Plan Refusal → Outcome
planned_outcome (Ok plan) = gives (plan.cost ∷ plan.count ∷ [])
planned_outcome (Err r) = refusal_outcome r

-- Refusals 41 and 42 (4.7).
abbrev pub walk_checks : List ℕ → ℕ → ℕ → List Check
walk_checks network start room =
    network_checks network
    ++ check WalkStart 0 (leb (node_count network) start)
    ∷ check WalkRoom 0 (ltb room (node_count network))
    ∷ []

-- How the walking entry ends, once the verdict on its input is known (2.3, 4.8).
pub record Walking (verdict : Verdict) (network : List ℕ) (start : ℕ) (before after : List ℕ) (answer : Outcome) : Type 0 where
  pub answers : answer ≡ verdict_outcome verdict
  pub fills : verdict ≡ Accepted → (v : ℕ) → v < node_count network → HoldsDistance network start v (get_or after v 0)
  pub kept : Kept (beside verdict (node_count network) 0) before after

abbrev pub Walked : List ℕ → ℕ → List ℕ → List ℕ → Outcome → Type 0
Walked network start before after answer =
    Walking (first_of (walk_checks network start (length before))) network start before after answer

-- How pricing ends, once the verdict on all that can be read off the records and the route is known: its answer, and the meeting
-- positions that come with it. A rider who can walk to no position is refusal 37, at the lowest such rider (4.5).
pub data Pricing (verdict : Verdict) (network : List ℕ) (q : Request) (route : List ℕ) (answer : Outcome) (meetings : List ℕ) : Type 0 where
  refused :
      (r : Refusal)
      → verdict ≡ Err r
      → answer ≡ refusal_outcome r
      → meetings ≡ []
      → Pricing verdict network q route answer meetings
  stranded :
      (j : ℕ)
      → verdict ≡ Accepted
      → j < rider_count_of q
      → Stranded network q route j
      → ((i : ℕ) → i < j → Stranded network q route i → ⊥)
      → answer ≡ refuses 37 j
      → meetings ≡ []
      → Pricing verdict network q route answer meetings
  priced :
      (price : ℕ)
      → verdict ≡ Accepted
      → Price network q route meetings price
      → length meetings ≡ rider_count_of q
      → answer ≡ gives (price ∷ [])
      → Pricing verdict network q route answer meetings

-- Refusal 31 (4.5), between those of the records and those of the route.
abbrev pub price_checks : List ℕ → List ℕ → List ℕ → ℕ → List Check
price_checks network request route room =
    record_checks network request
    ++ check MeetingRoom 0 (ltb room (rider_count_of (request_value request)))
    ∷ route_checks network (request_value request) route

-- The meeting positions stand at the start of their room, and only beside a price (4.9).
pub record PricedRoute (network request route before after : List ℕ) (answer : Outcome) : Type 0 where
  pub meetings : List ℕ
  pub pricing : Pricing (first_of (price_checks network request route (length before))) network (request_value request) route answer meetings
  pub written : Written meetings before after

-- The tablet's route comes as bytes, two for each link (4.10).
unfoldable pub links_from : List ℕ → ℕ → ℕ → List ℕ
links_from bytes zero i = []
links_from bytes (suc count) i = two bytes (2 * i) ∷ links_from bytes count (suc i)

unfoldable pub route_of : List ℕ → List ℕ
route_of bytes = links_from bytes (length bytes / 2) 0

-- Refusal 38 (4.6), between those of the records and those of the route.
abbrev pub tablet_checks : List ℕ → List ℕ → List ℕ → List Check
tablet_checks network request bytes =
    record_checks network request
    ++ check OddRoute 0 (differ (length bytes % 2) 0)
    ∷ route_checks network (request_value request) (route_of bytes)

pub record TabletPriced (network request bytes : List ℕ) (answer : Outcome) : Type 0 where
  pub meetings : List ℕ
  pub pricing : Pricing (first_of (tablet_checks network request bytes)) network (request_value request) (route_of bytes) answer meetings

-- The tablet gets one number: the price, or the refusal's (4.10).
abbrev pub tablet_number : Outcome → ℕ
tablet_number (gives values) = get_or values 0 0
tablet_number (refuses number place) = first_refusal + number

pub record Tablet (network request bytes : List ℕ) (number : ℕ) : Type 0 where
  pub answer : Outcome
  pub priced : TabletPriced network request bytes answer
  pub tells : number ≡ tablet_number answer

-- Refusals 21 to 23 (4.4), of rooms with so many places.
abbrev pub room_checks : ℕ → ℕ → ℕ → ℕ → ℕ → List Check
room_checks n l distances table steps =
    check DistancesRoom 0 (ltb distances (distance_places n l))
    ∷ check TableRoom 0 (ltb table (table_places n l))
    ∷ check StepsRoom 0 (ltb steps (step_places n l))
    ∷ []

abbrev pub search_checks : List ℕ → List ℕ → Lent → List Check
search_checks network request rooms =
    record_checks network request
    ++ room_checks (node_count network) (rider_count_of (request_value request)) (length rooms.distances) (length rooms.table)
    (length rooms.steps)

-- How the search ends, once the verdict on its records and rooms is known. Where there is no plan it is refusal 24, which fills
-- distances and table all the same (4.4, 4.8).
pub data Searching (verdict : Verdict) (network : List ℕ) (q : Request) (before after : Lent) (answer : Outcome) : Type 0 where
  refused :
      (r : Refusal)
      → verdict ≡ Err r
      → answer ≡ refusal_outcome r
      → after ≡ before
      → Searching verdict network q before after answer
  hopeless :
      verdict ≡ Accepted
      → Distances network q before.distances after.distances
      → Table network q before.table after.table
      → NoPlan network q
      → answer ≡ refuses 24 0
      → after.steps ≡ before.steps
      → Searching verdict network q before after answer
  planned :
      (plan : List ℕ) (cost : ℕ)
      → verdict ≡ Accepted
      → Distances network q before.distances after.distances
      → Table network q before.table after.table
      → RightPlan network q plan cost
      → answer ≡ gives (cost ∷ length plan ∷ [])
      → Written plan before.steps after.steps
      → Searching verdict network q before after answer

abbrev pub Searched : List ℕ → List ℕ → Lent → Lent → Outcome → Type 0
Searched network request before after answer =
    Searching (first_of (search_checks network request before)) network (request_value request) before after answer
