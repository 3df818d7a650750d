-- A certificate of what the rules give on one input: the walking distances, the work table and the plan. Its tests compare neighbours
-- only, and are quickly computed. No reader need believe them: what passes is proved right.
use Prim.Native.Nat.{ℕ, zero, suc, ◌+◌, ◌-◌, ◌*◌, ◌/◌, ◌%◌, ◌^◌}
use mathlib.Core.Bool.{Bool, true, false, ◌&&◌, cond}
use mathlib.Core.List.{List, [], ◌∷◌}
use lib.Dec.{ltb}
use lib.ListN.{length, get_or}
use Rattle.rules.specs.Limits.{closed, first_drive, step_range, packed_step}
use Rattle.rules.specs.Checks.{first_of, each, Verdict}
use Rattle.rules.specs.Numbers.{number, bytes_of, twos_of}
use Rattle.rules.specs.Network.{opening_checks, size_checks, network_checks, node_count, link_count, from, to, drive, walk}
use Rattle.rules.specs.Request.{count_checks, node_checks, weight_checks, request_checks, request_verdict, seven_places, request_value}
use Rattle.rules.specs.Request.{bus_weight_of, rider_count_of, rider_node_of, rider_weight_of, riders_from}
use Rattle.rules.specs.Walks.{no_distance}
use Rattle.rules.specs.Routes.{node_at, sum}
use Rattle.rules.specs.Plans.{without, all_riders}
use Rattle.rules.specs.Rooms.{no_finish}
use Rattle.rules.specs.declared.Request.{Request}
use Rattle.right.specs.Reading.{plan_value}
use Rattle.cases.specs.Cases.{Result, plan, none, Case, asked, row_distance, row_value, distance_need, table_need}
use Rattle.cases.proofs.Tests.{Test, at_most, below, equal, both, either, implies, for_each, for_some, all_below, any_below, passes}
use Rattle.std.specs.Prelude.{Ok, Err}

-- ---- the ways to walk link k: a test of the start and the end of each, and of some
module _ (network : List ℕ) (k : ℕ) (test : ℕ → ℕ → Test) where
  abbrev pub each_way : Test
  each_way =
      implies (below (walk network k) closed) (both (test (from network k) (to network k)) (test (to network k) (from network k)))

  abbrev pub some_way : Test
  some_way = both (below (walk network k) closed) (either (test (from network k) (to network k)) (test (to network k) (from network k)))

-- ---- walking distances from a start: d v is the one to v
module _ (network : List ℕ) (d : ℕ → ℕ) where
  -- link k from u to v makes no distance smaller
  abbrev pub no_shorter : ℕ → ℕ → ℕ → Test
  no_shorter k u v = at_most (d v) (walk network k + d u)

  -- link k from u leads to v and makes up its distance, and u passes the rest
  abbrev pub last_link : ℕ → (ℕ → Test) → ℕ → ℕ → ℕ → Test
  last_link v rest k u end = both (both (equal end v) (equal (d v) (walk network k + d u))) (rest u)

module _ (network : List ℕ) (start : ℕ) (d : ℕ → ℕ) where
  -- some walk of at most so many links leads from the start to v, and each of them makes up the distance
  unfoldable pub walked_within : ℕ → ℕ → Test
  walked_within zero v = equal v start
  walked_within (suc most) v =
      either (equal v start) (for_some (link_count network) (λ k. some_way network k (last_link network d v (walked_within most) k)))

  -- a distance is none, or 0 at the start, or some walk's
  abbrev pub walked_to : ℕ → Test
  walked_to v = both (at_most (d v) no_distance) (implies (below (d v) no_distance) (walked_within (node_count network) v))

  abbrev pub distances_test : Test
  distances_test =
      both (equal (d start) 0)
      (both (for_each (link_count network) (λ k. each_way network k (no_shorter network d k))) (for_each (node_count network) walked_to))

-- the numbers of all steps are below this
abbrev pub step_numbers : List ℕ → ℕ
step_numbers network = first_drive + link_count network

-- link k can be driven from v
abbrev pub drivable : List ℕ → ℕ → ℕ → Test
drivable network v k = both (below k (link_count network)) (both (equal (from network k) v) (below (drive network k) closed))

-- ---- one step with R still to be met and the bus at v: whether it is allowed, where it leads, and what it costs
pub record Move : Type 0 where
  pub allowed : Test
  pub set : ℕ
  pub node : ℕ
  pub cost : ℕ

module _ (network : List ℕ) (q : Request) (D : ℕ → ℕ → ℕ) where
  abbrev pub meet_move : ℕ → ℕ → ℕ → Move
  meet_move R v j =
      record {
        allowed = both (equal (R / 2 ^ j % 2) 1) (below (D j v) no_distance);
        set = without R j;
        node = v;
        cost = rider_weight_of q j * D j v;
      }

  abbrev pub drive_move : ℕ → ℕ → ℕ → Move
  drive_move R v k =
      record {
        allowed = drivable network v k;
        set = R;
        node = to network k;
        cost = bus_weight_of q * drive network k;
      }

  abbrev pub move : ℕ → ℕ → ℕ → Move
  move R v step = cond (ltb step first_drive) (meet_move R v step) (drive_move R v (step - first_drive))

  -- ---- the work table: T R v is the place of R and v
  module _ (T : ℕ → ℕ → ℕ) where
    -- the value of going on by a step
    abbrev pub onward : ℕ → ℕ → ℕ → ℕ
    onward R v step = packed_step (move R v step).cost + T (move R v step).set (move R v step).node

    abbrev pub tight : ℕ → ℕ → ℕ → Test
    tight R v step = both (move R v step).allowed (equal (T R v) (onward R v step))

    abbrev pub no_lower : ℕ → ℕ → ℕ → Test
    no_lower R v step = implies (move R v step).allowed (at_most (T R v) (onward R v step))

    abbrev pub higher : ℕ → ℕ → ℕ → Test
    higher R v step = implies (move R v step).allowed (below (T R v) (onward R v step))

    abbrev pub all_done : ℕ → ℕ → Test
    all_done R v = both (equal R 0) (equal v q.target)

    -- a value is at most that of every choice, and is none or that of some choice
    abbrev pub place_test : ℕ → ℕ → Test
    place_test R v =
        both (both (at_most (T R v) no_finish) (implies (all_done R v) (equal (T R v) 0)))
        (both (for_each (step_numbers network) (no_lower R v))
        (implies (below (T R v) no_finish) (either (all_done R v) (for_some (step_numbers network) (tight R v)))))

    abbrev pub table_test : Test
    table_test = for_each (2 ^ rider_count_of q) (λ R. for_each (node_count network) (place_test R))

    -- the steps from v on are the lowest tight ones, and they end at the value 0
    unfoldable pub reads_test : ℕ → ℕ → List ℕ → Test
    reads_test R v [] = equal (T R v) 0
    reads_test R v (step ∷ steps) =
        both (both (tight R v step) (for_each step (higher R v)))
        (reads_test (move R v step).set (move R v step).node steps)

-- ---- the price of a route
-- the route leads from v to the target
unfoldable pub route_test : List ℕ → ℕ → ℕ → List ℕ → Test
route_test network target v [] = equal v target
route_test network target v (k ∷ route) = both (drivable network v k) (route_test network target (to network k) route)

-- the sum of its drive costs
unfoldable pub drive_sum : List ℕ → List ℕ → ℕ
drive_sum network [] = 0
drive_sum network (k ∷ route) = drive network k + drive_sum network route

module _ (network : List ℕ) (q : Request) (D : ℕ → ℕ → ℕ) (route : List ℕ) where
  abbrev pub walk_to : ℕ → ℕ → ℕ
  walk_to j position = D j (node_at network q.source route position)

  -- no position is nearer to the rider, and no earlier one as near
  abbrev pub meeting_test : ℕ → ℕ → Test
  meeting_test j position =
      both (both (at_most position (length route)) (below (walk_to j position) no_distance))
      (both (for_each (length route + 1) (λ other. at_most (walk_to j position) (walk_to j other)))
      (for_each position (λ other. below (walk_to j position) (walk_to j other))))

  abbrev pub price_test : List ℕ → ℕ → Test
  price_test meetings price =
      both (route_test network q.target q.source route)
      (both (for_each (rider_count_of q) (λ j. meeting_test j (get_or meetings j 0)))
      (equal price
      (bus_weight_of q * drive_sum network route + sum (rider_count_of q) (λ j. rider_weight_of q j * walk_to j (get_or meetings j 0)))))

-- ---- a case
module _ (network : List ℕ) (q : Request) (D T : ℕ → ℕ → ℕ) where
  abbrev pub result_test : Result → Test
  result_test (plan cost steps) =
      both (both (below (plan_value q T) no_finish) (equal (plan_value q T / step_range) cost))
      (reads_test network q D T (all_riders q) q.source steps)
  result_test none = equal (plan_value q T) no_finish

  abbrev pub rules_test : Result → Test
  rules_test result =
      both (for_each (rider_count_of q) (λ j. distances_test network (rider_node_of q j) (D j)))
      (both (table_test network q D T) (result_test result))

abbrev pub case_test : Case → Test
case_test c =
    both (both (equal (length c.distances) (distance_need c)) (equal (length c.table) (table_need c)))
    (rules_test c.network (asked c) (row_distance c) (row_value c) c.result)

abbrev pub accepts : Verdict → Bool
accepts (Ok _) = true
accepts (Err r) = false

unfoldable pub records_pass : Case → Bool
unfolding first_of each number opening_checks size_checks network_checks count_checks node_checks weight_checks request_checks request_verdict
    bytes_of twos_of riders_from
records_pass c = accepts (request_verdict c.network c.request)

unfoldable pub certified : Case → Bool
unfolding records_pass number seven_places request_value all_below any_below passes walked_within reads_test bytes_of twos_of riders_from
certified c = records_pass c && passes (case_test c)

-- the price of a route, by the distances of a case
unfoldable pub priced_at : Case → List ℕ → List ℕ → ℕ → Bool
unfolding number seven_places request_value all_below passes node_at sum route_test drive_sum bytes_of twos_of riders_from
priced_at c route meetings price = passes (price_test c.network (asked c) (row_distance c) route meetings price)
