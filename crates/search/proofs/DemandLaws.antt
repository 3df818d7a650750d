-- A search that keeps its promise meets demand 3, whatever the input; and where source document 000 applies, its plan is the one
-- asked for there.
use Prim.Native.Nat.{ℕ, ◌+◌}
use native.Mathlib.Omega.{arith}
use mathlib.Core.Path.{◌≡◌, refl, ◌∙◌}
use mathlib.Core.Logic.{◌⊎◌, ◌↔◌, inl, inr}
use mathlib.Core.List.{List, [], ◌∷◌}
use lib.ListN.{length}
use Rattle.rules.specs.Checks.{first_of, number_of, Accepted}
use Rattle.rules.specs.Network.{node_count}
use Rattle.rules.specs.Request.{record_checks, request_verdict, request_value, SoundValue, bus_weight_of, rider_count_of}
use Rattle.rules.specs.Plans.{RightPlan}
use Rattle.rules.specs.Rooms.{Table, Lent}
use Rattle.rules.specs.Answers.{Outcome, gives, refuses, search_checks, Searched, refused, hopeless, planned}
use Rattle.rules.proofs.Clash.{clash}
use Rattle.rules.proofs.Order.{front_passed, accepted_front, accepted_rest}
use Rattle.rules.proofs.Refusals.{search_small}
use Rattle.rules.proofs.SoundRequestLaws.{records_sound, sound_records, value_sound}
use Rattle.rules.proofs.RoomLaws.{rooms_enough, rooms_accepted}
use Rattle.rules.proofs.PlanLaws.{all_riders_below, holds_finish_unique, right_plan_unique}
use Rattle.finish.specs.Packed.{Unpacks}
use Rattle.finish.proofs.Bounds.{unpacks, plan_small}
use Rattle.right.specs.Reading.{plan_value}
use Rattle.right.specs.Steps.{drives_of, NoDrive}
use Rattle.right.proofs.Right.{right_price}
use Rattle.right.proofs.Routes.{right_cheapest, no_plan}
use Rattle.paper.specs.Fraction.{Fraction, times, IsWhole}
use Rattle.paper.specs.Problem.{Optimal}
use Rattle.paper.specs.TwoWay.{TwoWay, graph_of, EqualWeights, query_of, nodes_of}
use Rattle.paper.proofs.Definition.{right_optimal}
use Rattle.table.specs.Places.{value_at}
use Rattle.search.specs.Demand.{Given, AnsweredPlan, Demand3}

module _ (network request : List ℕ) {before : Lent} where
  -- What is given is what passes the checks.
  given_passes : Given network request before → first_of (search_checks network request before) ≡ Accepted
  unfolding request_verdict
  given_passes given =
      front_passed (record_checks network request) _ (sound_records network request given.network_sound given.request_sound)
      ∙ rooms_enough (node_count network) (rider_count_of (request_value request)) before given.enough

  passes_given : first_of (search_checks network request before) ≡ Accepted → Given network request before
  unfolding request_verdict
  passes_given e =
      let (sound, request_sound) = records_sound network request (accepted_front (record_checks network request) _ e) in
      let enough =
      rooms_accepted (node_count network) (rider_count_of (request_value request)) before (accepted_rest (record_checks network request) _ e) in
      record { network_sound = sound; request_sound = request_sound; enough = enough }

  value : Given network request before → SoundValue (node_count network) (request_value request)
  value given = value_sound (node_count network) request given.request_sound

  -- The table tells the right plan's cost and number of steps.
  pub count_told : {table steps : List ℕ} {cost : ℕ} → Given network request before
      → Table network (request_value request) before.table table → RightPlan network (request_value request) steps cost
      → Unpacks (plan_value (request_value request) (value_at network table)) steps cost
  count_told {steps = steps} {cost} given table right =
      let q = request_value request in
      let starts = (value given).starts in
      let packs =
      holds_finish_unique (table.holds _ _ (all_riders_below q) starts)
      (inl (record { steps = steps; cost = cost; best = right.best; packs = refl })) in
      unpacks given.network_sound (value given) (all_riders_below q) starts right.best packs

  -- A right plan that is written, and told by its cost and count, is what the answer stands for.
  answered : {after : Lent} {cost count : ℕ} → Searched network request before after (gives (cost ∷ count ∷ []))
      → AnsweredPlan network (request_value request) before after cost count
  answered (refused r v a same) = clash (cc)
  answered (hopeless v d t none a same) = clash (cc)
  answered {cost = cost} {count} (planned steps c v d t right a w) =
      let given = passes_given v in
      let sound = value given in
      let told = count_told given t right in
      let costs : c ≡ cost = cc in
      let counts : length steps ≡ count = cc in
      record {
        steps = steps;
        counts = cc;
        written = w;
        small = plan_small given.network_sound sound right.best.finishes;
        quotient = told.quotient ∙ costs;
        remainder = told.remainder ∙ counts;
        priced = rw (← costs) (right_price sound right);
        cheapest = λ route meetings price p. rw (← costs) (right_cheapest sound.riders right p);
        right = rw (← costs) right;
        only = λ others e other. let (same, paid) = right_plan_unique other right in (same, paid ∙ costs);
      }

  -- What is given is answered by a plan or by 24,
  plan_or_24 : {after : Lent} {answer : Outcome} → Searched network request before after answer → Given network request before
      → ((cost count : ℕ) × (answer ≡ gives (cost ∷ count ∷ []))) ⊎ (answer ≡ refuses 24 0)
  plan_or_24 (refused r v a same) given = let passes = given_passes given in clash (cc)
  plan_or_24 (hopeless v d t unplanned a same) given = inr a
  plan_or_24 (planned steps c v d t right a w) given = inl (c, length steps, a)

  -- and by 24 exactly when no drive serves all.
  exactly_24 : {after : Lent} {answer : Outcome} → Searched network request before after answer
      → (answer ≡ refuses 24 0) ↔ (Given network request before × NoDrive network (request_value request))
  exactly_24 (refused r v a same) = (
    λ told. (let is : number_of r.fault ≡ 24 = cc in absurd (omega (arith, ((search_small 24 (omega arith) network request before).given r v).number))),
    λ (given, blocked). (let passes = given_passes given in clash (cc)),
  )
  exactly_24 (hopeless v d t unplanned a same) =
      let given = passes_given v in
      (λ told. (given, (no_plan given.network_sound (value given)).0 unplanned), λ _. a)
  exactly_24 (planned steps c v d t right a w) = (
    λ told. clash (cc),
    λ (given, blocked). absurd ((no_plan given.network_sound (value given)).1 blocked _ _ right.best.finishes),
  )

  -- Every search that keeps its promise meets demand 3.
  pub demand_3 : {after : Lent} {answer : Outcome} → Searched network request before after answer
      → Demand3 network request before after answer
  demand_3 s = record { answers = plan_or_24 s; plan = λ cost count told. answered (rw told at s); none = exactly_24 s }

  -- On a two-way network with riders of one weight, the route of the plan is one that Definition 2.1 of source document 000 asks for.
  pub search_optimal : {after : Lent} {cost count w : ℕ} (s : Searched network request before after (gives (cost ∷ count ∷ [])))
      → TwoWay network → (weights : EqualWeights (request_value request) w)
      → (f : Fraction) × Optimal (graph_of network) (query_of (request_value request) w weights)
      (nodes_of network (drives_of ((demand_3 s).plan cost count refl).steps)) f × IsWhole (times f (bus_weight_of (request_value request) + w)) cost
  search_optimal (refused r v a same) two weights = clash (cc)
  search_optimal (hopeless v d t none a same) two weights = clash (cc)
  search_optimal {cost = cost} {count} (planned steps c v d t right a w) two weights =
      let given = passes_given v in
      right_optimal two weights given.network_sound (value given) ((demand_3 (planned steps c v d t right a w)).plan cost count refl).right
