-- Demand 3, as one statement on an answer of the search and on what it leaves in the rooms.
use Rattle.std.specs.Prelude.{ℕ, ◌/◌, ◌%◌, ◌≤◌, ◌<◌, ◌≡◌, ◌⊎◌, ◌↔◌, List, [], ◌∷◌, length, get_or}
use Rattle.rules.specs.Limits.{step_range}
use Rattle.rules.specs.Network.{SoundNetwork, node_count}
use Rattle.rules.specs.Request.{SoundRequest, request_value, rider_count_of}
use Rattle.rules.specs.Routes.{Price}
use Rattle.rules.specs.Plans.{RightPlan}
use Rattle.rules.specs.Rooms.{Written, Lent, Enough}
use Rattle.rules.specs.Answers.{Outcome, gives, refuses}
use Rattle.rules.specs.declared.Request.{Request}
use Rattle.right.specs.Reading.{plan_value}
use Rattle.right.specs.Steps.{drives_of, positions_of, NoDrive}
use Rattle.table.specs.Places.{value_at}

-- Sound records, and room enough.
pub record Given (network request : List ℕ) (before : Lent) : Type 0 where
  pub network_sound : SoundNetwork network
  pub request_sound : SoundRequest (node_count network) request
  pub enough : Enough (node_count network) (rider_count_of (request_value request)) before

-- The plan that an answer stands for.
pub record AnsweredPlan (network : List ℕ) (q : Request) (before after : Lent) (cost count : ℕ) : Type 0 where
  -- its steps stand at the start of their room, the answer counts them, and each fits 16 bits
  pub steps : List ℕ
  pub counts : count ≡ length steps
  pub written : Written steps before.steps after.steps
  pub small : (i : ℕ) → get_or steps i 0 < 65536
  -- the table tells its cost and its number of steps, at the place of all riders and the source
  pub quotient : plan_value q (value_at network after.table) / step_range ≡ cost
  pub remainder : plan_value q (value_at network after.table) % step_range ≡ count
  -- it costs what its route is priced at, with the riders met at their meeting positions
  pub priced : Price network q (drives_of steps) (positions_of q steps) cost
  -- no drive is cheaper, however long it is and however often it repeats a link
  pub cheapest : (route meetings : List ℕ) (price : ℕ) → Price network q route meetings price → cost ≤ price
  -- it is the right plan, and the only one
  pub right : RightPlan network q steps cost
  pub only : (others : List ℕ) (c : ℕ) → RightPlan network q others c → (others ≡ steps) × (c ≡ cost)

pub record Demand3 (network request : List ℕ) (before after : Lent) (answer : Outcome) : Type 0 where
  -- what is given is answered by a plan or by 24
  pub answers : Given network request before → ((cost count : ℕ) × (answer ≡ gives (cost ∷ count ∷ []))) ⊎ (answer ≡ refuses 24 0)
  pub plan : (cost count : ℕ) → answer ≡ gives (cost ∷ count ∷ []) → AnsweredPlan network (request_value request) before after cost count
  -- 24 is answered exactly when no drive passes, for each rider, a node that the rider can walk to
  pub none : (answer ≡ refuses 24 0) ↔ (Given network request before × NoDrive network (request_value request))
