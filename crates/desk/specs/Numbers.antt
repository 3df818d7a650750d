-- The one number that each answer is told by: the values of its outcome; or, for a refusal, its place and number from 2^63 on.
use Rattle.std.specs.Prelude.{ℕ, ◌+◌, ◌*◌, ◌<◌, ◌≡◌, List, [], ◌∷◌, length}
use Rattle.rules.specs.Limits.{first_refusal, step_range}
use Rattle.rules.specs.Rooms.{Lent}
use Rattle.rules.specs.Answers.{Outcome, gives, refuses, Walked, PricedRoute, Searched}
use Rattle.rules.specs.Checks.{first_of, Verdict}
use Rattle.rules.specs.Network.{network_record}
use Rattle.rules.specs.Request.{request_record}
use Rattle.rules.specs.Writing.{Writing, network_write_checks, value_of, value_list_checks}

-- m, the rider count and the number of a refusal are below this.
abbrev pub short_range : ℕ
short_range = 65536

-- one value as it is, and two with a range for the second
abbrev pub told : ℕ → List ℕ → ℕ
told range [] = 0
told range (x ∷ []) = x
told range (x ∷ y ∷ more) = range * x + y

abbrev pub desk_number : ℕ → Outcome → ℕ
desk_number range (gives values) = told range values
desk_number range (refuses number place) = first_refusal + short_range * place + number

-- Where the answer refuses, the number and the place are small.
pub record RefusesSmall (answer : Outcome) : Type 0 where
  pub small : (number place : ℕ) → answer ≡ refuses number place → (number < short_range) × (place < short_range)

-- An answer that keeps the promise of walking, of pricing, of writing or of the search, and its number. A plan's is what a place of the work
-- table packs.
pub record WalkTold (network : List ℕ) (start : ℕ) (before after : List ℕ) (number : ℕ) : Type 0 where
  pub answer : Outcome
  pub walked : Walked network start before after answer
  pub tells : number ≡ desk_number short_range answer

pub record PriceTold (network request route before after : List ℕ) (number : ℕ) : Type 0 where
  pub answer : Outcome
  pub priced : PricedRoute network request route before after answer
  pub tells : number ≡ desk_number short_range answer

pub record WriteTold (verdict : Verdict) (bytes before after : List ℕ) (number : ℕ) : Type 0 where
  pub answer : Outcome
  pub written : Writing verdict bytes before after answer
  pub tells : number ≡ desk_number short_range answer

abbrev pub NetworkWriteTold : ℕ → List ℕ → List ℕ → List ℕ → ℕ → Type 0
NetworkWriteTold n numbers before after number =
    WriteTold (first_of (network_write_checks n numbers (length before))) (network_record n numbers) before after number

abbrev pub RequestWriteTold : ℕ → List ℕ → List ℕ → List ℕ → ℕ → Type 0
RequestWriteTold n numbers before after number =
    WriteTold (first_of (value_list_checks n numbers (length before))) (request_record (value_of numbers)) before after number

pub record PlanTold (network request : List ℕ) (before after : Lent) (number : ℕ) : Type 0 where
  pub answer : Outcome
  pub searched : Searched network request before after answer
  pub tells : number ≡ desk_number step_range answer
