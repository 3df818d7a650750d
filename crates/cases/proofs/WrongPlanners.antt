-- Planners that fail the search's promise, each with the input where it fails.
use Prim.Native.Nat.{ℕ}
use mathlib.Core.Path.{◌≡◌, refl, ap, sym, ◌∙◌}
use mathlib.Core.Logic.{◌≢◌}
use mathlib.Core.List.{List, [], ◌∷◌}
use lib.ListN.{get_or}
use native.Mathlib.Omega.{arith}
use Rattle.rules.specs.Limits.{closed}
use Rattle.rules.specs.Numbers.{number, bytes_of, twos_of}
use Rattle.rules.specs.Request.{request_value, riders_from}
use Rattle.rules.specs.Routes.{node_at, Price}
use Rattle.rules.specs.Plans.{RightPlan}
use Rattle.rules.specs.Rooms.{Lent, Written}
use Rattle.rules.specs.Answers.{gives, refuses, PricedRoute, refused, stranded, priced}
use Rattle.rules.proofs.Clash.{clash}
use Rattle.rules.proofs.PriceLaws.{price_unique}
use Rattle.rules.proofs.PlanLaws.{right_plan_unique}
use Rattle.right.specs.Steps.{drives_of}
use Rattle.cases.specs.Cases.{plan, none, asked}
use Rattle.cases.specs.Searches.{EnoughFor, zeros, SearchedCase, Fails, Planner, reply_at, Answers, Keeps, NoNodeTwice, EndsAtTarget}
use Rattle.cases.specs.TownRows.{row_a, row_b, row_c, row_f, row_j, row_k}
use Rattle.cases.specs.OwnRows.{beyond_target, two_links, near_twice, one_for_two, off_the_road, wide_costs, closed_walk, wall_opened}
use Rattle.cases.specs.OwnRows.{free_circle, self_link, cheaper_second, up_the_street, up_and_down}
use Rattle.cases.proofs.Certificate.{priced_at}
use Rattle.cases.proofs.CaseLaws.{case_priced}
use Rattle.cases.proofs.SearchLaws.{zeros_enough, searched_case, fails}
use Rattle.cases.proofs.Tables.{town_holds, own_holds}

-- ---- planners that answer without looking, whatever they answer at other inputs
module _ (p : Planner) where
  -- One that refuses everything, at case A.
  pub refuses_everything : (number place : ℕ) (before : Lent) → EnoughFor row_a before → Answers p row_a before (refuses number place)
      → Keeps p row_a before → ⊥
  refuses_everything number place before enough e keeps =
      let right = (searched_case (town_holds 0) enough keeps).1 in
      clash (cc)

  -- One that gives sound records a fixed plan, at case A or at case B,
  pub fixed_plan : (cost count : ℕ) (a b : Lent) → EnoughFor row_a a → EnoughFor row_b b → Answers p row_a a (gives (cost ∷ count ∷ []))
      → Answers p row_b b (gives (cost ∷ count ∷ [])) → Keeps p row_a a → Keeps p row_b b → ⊥
  fixed_plan cost count a b enough also e f keeps kept =
      let right = (searched_case (town_holds 0) enough keeps).1 in
      let other = (searched_case (town_holds 1) also kept).1 in
      let z : ◌≡◌ {A = ℕ} 8 11 = cc in
      omega arith

  -- and whichever plan it is, at case F.
  pub fixed_plan_at_F : (cost count : ℕ) (before : Lent) → EnoughFor row_f before → Answers p row_f before (gives (cost ∷ count ∷ []))
      → Keeps p row_f before → ⊥
  fixed_plan_at_F cost count before enough e keeps =
      let right = (searched_case (town_holds 5) enough keeps).1 in
      clash (cc)

  -- One that writes one list of steps, whatever cost and number of steps it tells, at case A or at case B.
  pub fixed_steps : (steps : List ℕ) (before : Lent) → EnoughFor row_a before → EnoughFor row_b before
      → Written steps before.steps (reply_at p row_a before).after.steps
      → Written steps before.steps (reply_at p row_b before).after.steps
      → Keeps p row_a before → Keeps p row_b before → ⊥
  fixed_steps steps before enough also written again keeps kept =
      let right = ap (λ (l : Lent). get_or l.steps 0 0) (searched_case (town_holds 0) enough keeps).0 in
      let other = ap (λ (l : Lent). get_or l.steps 0 0) (searched_case (town_holds 1) also kept).0 in
      let z : ◌≡◌ {A = ℕ} 8 10 = sym right ∙ ap (λ (l : List ℕ). get_or l 0 0) (written ∙ sym again) ∙ other in
      omega arith

  -- One that writes nothing, at case A: place 5 of the table stays 0.
  pub writes_nothing : (reply_at p row_a (zeros row_a)).after ≡ zeros row_a → Keeps p row_a (zeros row_a) → ⊥
  unfolding number request_value bytes_of twos_of riders_from
  writes_nothing kept keeps =
      let right = (searched_case (town_holds 0) (zeros_enough row_a) keeps).0 in
      let z : ◌≡◌ {A = ℕ} 0 32771 = ap (λ (l : Lent). get_or l.table 5 0) (sym kept ∙ right) in
      omega arith

-- One to which only rider 0 has a weight, at case J: it takes the plan of case A and meets rider 1 beside rider 0, whatever it says of
-- the cost.
pub weighs_rider_0 : (cost : ℕ) → Fails row_j (plan cost (8 ∷ 0 ∷ 1 ∷ 9 ∷ []))
weighs_rider_0 cost = fails (plan cost (8 ∷ 0 ∷ 1 ∷ 9 ∷ [])) (town_holds 9) (λ e. clash (cc))

-- That plan costs 12, where the right one costs 11.
pub weighs_rider_0_price : Price row_j.network (asked row_j) (0 ∷ 1 ∷ []) (1 ∷ 1 ∷ []) 12
unfolding priced_at
weighs_rider_0_price = case_priced (town_holds 9) (0 ∷ 1 ∷ []) (1 ∷ 1 ∷ []) refl

-- So pricing that weighs rider 1 as rider 0, for 10, breaks its promise.
pub one_weight_for_all : {before after : List ℕ}
    → PricedRoute row_j.network row_j.request (0 ∷ 1 ∷ []) before after (gives (10 ∷ [])) → ⊥
unfolding number request_value bytes_of twos_of riders_from
one_weight_for_all so = elim so.pricing [
  | refused r v e m ↦ clash (cc)
  | stranded j v h s l e m ↦ clash (cc)
  | priced price v costs size e ↦ (
      let twelve = (price_unique size refl costs weighs_rider_0_price).0 in
      let z : ◌≡◌ {A = ℕ} 10 12 = cc in
      omega arith
      )
]

-- One that tells any other number of steps, at case A.
pub invents_the_count : (cost count : ℕ) → count ≢ 3 → (before after : Lent) → EnoughFor row_a before
    → SearchedCase row_a before after (gives (cost ∷ count ∷ [])) → ⊥
invents_the_count cost count other before after enough s =
    let right = (searched_case (town_holds 0) enough s).1 in
    other (cc)

-- ---- wrong plans of desks
-- Through the wall, where only walkers may go, at what it costs them (7.1). It is right where the wall is open, by a case of our own.
pub drives_through_the_wall : Fails row_b wall_opened.result
drives_through_the_wall = fails wall_opened.result (town_holds 1) (λ e. clash (cc))

-- Past every rider's node, by the shortcut of Lemma 4.4 of source document 000 (7.2): that costs 11 in case C.
pub passes_every_rider : Fails row_c (plan 11 (10 ∷ 15 ∷ 0 ∷ 13 ∷ 11 ∷ []))
passes_every_rider = fails (plan 11 (10 ∷ 15 ∷ 0 ∷ 13 ∷ 11 ∷ [])) (town_holds 2) (λ e. clash (cc))

pub passes_every_rider_price : Price row_c.network (asked row_c) (2 ∷ 7 ∷ 5 ∷ 3 ∷ []) (2 ∷ []) 11
unfolding priced_at
passes_every_rider_price = case_priced (town_holds 2) (2 ∷ 7 ∷ 5 ∷ 3 ∷ []) (2 ∷ []) refl

-- No further than to the target (7.3): in case B with the rider left behind, or met on the way for 26.
pub stops_without_the_rider : (cost : ℕ) → Fails row_b (plan cost (8 ∷ 9 ∷ []))
stops_without_the_rider cost = fails (plan cost (8 ∷ 9 ∷ [])) (town_holds 1) (λ e. clash (cc))

pub stops_with_the_rider : Fails row_b (plan 26 (8 ∷ 0 ∷ 9 ∷ []))
stops_with_the_rider = fails (plan 26 (8 ∷ 0 ∷ 9 ∷ [])) (town_holds 1) (λ e. clash (cc))

pub stops_with_the_rider_price : Price row_b.network (asked row_b) (0 ∷ 1 ∷ []) (1 ∷ []) 26
unfolding priced_at
stops_with_the_rider_price = case_priced (town_holds 1) (0 ∷ 1 ∷ []) (1 ∷ []) refl

-- No node twice (7.4): the right plans of cases B and J have one.
pub forbids_repeated_nodes_B : {steps : List ℕ} {cost : ℕ} → RightPlan row_b.network (asked row_b) steps cost
    → NoNodeTwice row_b (drives_of steps) → ⊥
unfolding number node_at drives_of bytes_of twos_of
forbids_repeated_nodes_B right once =
    let same = (right_plan_unique right (town_holds 1).result).0 in
    (rw same at once) 1 3 (omega arith) (omega arith) refl

pub forbids_repeated_nodes_J : {steps : List ℕ} {cost : ℕ} → RightPlan row_j.network (asked row_j) steps cost
    → NoNodeTwice row_j (drives_of steps) → ⊥
unfolding number node_at drives_of bytes_of twos_of
forbids_repeated_nodes_J right once =
    let same = (right_plan_unique right (town_holds 9).result).0 in
    (rw same at once) 1 3 (omega arith) (omega arith) refl

-- No plan where the rider's own node is out of the bus's reach (7.5).
pub gives_the_rider_up : Fails off_the_road none
gives_the_rider_up = fails none (own_holds 4) (λ e. clash (cc))

-- Nobody walks up a one-way street (7.6): in case K the rider would be out of reach.
pub walks_one_way : Fails row_k none
walks_one_way = fails none (town_holds 10) (λ e. clash (cc))

-- The bus drives up one-way streets, as people walk (7.7): in case F along links 1 and 0.
pub drives_either_way : Fails row_f (plan 6 (9 ∷ 8 ∷ []))
drives_either_way = fails (plan 6 (9 ∷ 8 ∷ [])) (town_holds 5) (λ e. clash (cc))

-- ---- planners that get all of A to K right
-- Never driving on from the target: with no plan, or with one that ends where it first reaches the target.
pub no_way_beyond : Fails beyond_target none
no_way_beyond = fails none (own_holds 0) (λ e. clash (cc))

pub never_drives_on : {steps : List ℕ} {cost : ℕ} → RightPlan beyond_target.network (asked beyond_target) steps cost
    → EndsAtTarget beyond_target (drives_of steps) → ⊥
unfolding number request_value node_at drives_of bytes_of twos_of riders_from
never_drives_on right ends =
    let same = (right_plan_unique right (own_holds 0).result).0 in
    (rw same at ends) 1 (omega arith) refl

-- Taking the highest link first.
pub highest_link_first : Fails two_links (plan 1 (9 ∷ []))
highest_link_first = fails (plan 1 (9 ∷ [])) (own_holds 1) (λ e. clash (cc))

-- Driving before meeting.
pub drives_before_it_meets : Fails near_twice (plan 2 (8 ∷ 0 ∷ []))
drives_before_it_meets = fails (plan 2 (8 ∷ 0 ∷ [])) (own_holds 2) (λ e. clash (cc))

-- Ignoring fewest steps.
pub ignores_fewest_steps : Fails one_for_two (plan 2 (8 ∷ 9 ∷ []))
ignores_fewest_steps = fails (plan 2 (8 ∷ 9 ∷ [])) (own_holds 3) (λ e. clash (cc))

-- Keeping a cost in 16 bits: twice 50,000 becomes 34,464, or 65,535, and either way the one link seems cheaper.
pub keeps_16_bits : (cost : ℕ) → Fails wide_costs (plan cost (8 ∷ []))
keeps_16_bits cost = fails (plan cost (8 ∷ [])) (own_holds 5) (λ e. clash (cc))

-- Walking a closed link at 65,535.
pub walks_closed_links : Fails closed_walk (plan closed (0 ∷ []))
walks_closed_links = fails (plan closed (0 ∷ [])) (own_holds 6) (λ e. clash (cc))

-- Taking a cost of 0 for closed, to the bus or to walkers alone.
pub takes_free_for_closed : Fails free_circle none
takes_free_for_closed = fails none (own_holds 8) (λ e. clash (cc))

pub takes_free_walks_for_closed : Fails free_circle (plan 0 (8 ∷ 0 ∷ 10 ∷ []))
takes_free_walks_for_closed = fails (plan 0 (8 ∷ 0 ∷ 10 ∷ [])) (own_holds 8) (λ e. clash (cc))

-- Driving round where it costs nothing: a circle, or a link from a node to itself.
pub drives_round : Fails free_circle (plan 0 (0 ∷ 8 ∷ 9 ∷ 8 ∷ 10 ∷ []))
drives_round = fails (plan 0 (0 ∷ 8 ∷ 9 ∷ 8 ∷ 10 ∷ [])) (own_holds 8) (λ e. clash (cc))

pub drives_in_place : Fails self_link (plan 1 (0 ∷ 8 ∷ 9 ∷ []))
drives_in_place = fails (plan 1 (0 ∷ 8 ∷ 9 ∷ [])) (own_holds 9) (λ e. clash (cc))

-- Walking a link from a node to itself in order to be there.
pub walks_in_place : Fails self_link (plan 6 (0 ∷ 9 ∷ []))
walks_in_place = fails (plan 6 (0 ∷ 9 ∷ [])) (own_holds 9) (λ e. clash (cc))

-- Looking at one link only from a node to another: the first to drive, or the first to walk.
pub drives_the_first_link : (cost : ℕ) → Fails cheaper_second (plan cost (8 ∷ 0 ∷ []))
drives_the_first_link cost = fails (plan cost (8 ∷ 0 ∷ [])) (own_holds 10) (λ e. clash (cc))

pub walks_the_first_link : Fails cheaper_second (plan 9 (9 ∷ 0 ∷ []))
walks_the_first_link = fails (plan 9 (9 ∷ 0 ∷ [])) (own_holds 10) (λ e. clash (cc))

-- Walking up a street only where no walk leads down, for 5 instead of 1; or never up and down on one walk.
pub walks_down_first : Fails up_the_street (plan 6 (8 ∷ 0 ∷ []))
walks_down_first = fails (plan 6 (8 ∷ 0 ∷ [])) (own_holds 11) (λ e. clash (cc))

pub never_turns_on_a_walk : Fails up_and_down none
never_turns_on_a_walk = fails none (own_holds 12) (λ e. clash (cc))
