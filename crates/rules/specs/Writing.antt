-- Records written from plain numbers (1.11, 1.12): the refusals, and what stands in the room.
use Rattle.std.specs.Prelude.{ℕ, ◌+◌, ◌*◌, ◌%◌, ◌≡◌, Bool, ◌||◌, cond, List, [], ◌∷◌, ◌++◌, length, get_or, ltb, leb}
use Rattle.rules.specs.Checks.{Verdict, Accepted, Check, check, first_of, each, differ, outside, beside}
use Rattle.rules.specs.Limits.{most_nodes, most_links, most_riders, most_weight}
use Rattle.rules.specs.Numbers.{Fit}
use Rattle.rules.specs.Network.{node_count, link_numbers, given_links, link_start, network_record, network_verdict}
use Rattle.rules.specs.Request.{rider_start, seven_places, request_value, request_record, request_verdict}
use Rattle.rules.specs.Request.{bus_weight_of, rider_count_of, rider_node_of, rider_weight_of}
use Rattle.rules.specs.Rooms.{Written}
use Rattle.rules.specs.Answers.{Outcome, outcome_of}
use Rattle.rules.specs.declared.Request.{Request}
use Rattle.rules.specs.declared.refusal.Fault.TheVariants.{GivenNode, GivenNumber, RecordRoom}

-- How writing ends, once the verdict on all that is handed over is known: the record stands at the start of the room, or the room is as it was.
pub record Writing (verdict : Verdict) (bytes before after : List ℕ) (answer : Outcome) : Type 0 where
  pub answers : answer ≡ outcome_of verdict (length bytes ∷ [])
  pub written : Written (beside verdict bytes []) before after

-- Refusal 81 (4.12) of n, and 83 of a room for a record of so many bytes.
abbrev pub node_count_check : ℕ → Check
node_count_check n = check GivenNumber 0 (outside 1 most_nodes n)

abbrev pub room_check : ℕ → ℕ → Check
room_check size room = check RecordRoom 0 (ltb room size)

-- A network's n, and its links' numbers in one list: 81, then 82 at any link.
unfoldable pub link_list_checks : ℕ → List ℕ → List Check
link_list_checks n numbers =
    node_count_check n ∷ check GivenNumber 0 (differ (length numbers % 4) 0) ∷ check GivenNumber 0 (ltb most_links (given_links numbers)) ∷ []

abbrev pub given_link_beyond : ℕ → List ℕ → ℕ → Bool
given_link_beyond n numbers k = leb n (get_or numbers (4 * k) 0) || leb n (get_or numbers (4 * k + 1) 0)

abbrev pub given_link_checks : ℕ → List ℕ → ℕ → List Check
given_link_checks n numbers k = check GivenNode 0 (given_link_beyond n numbers k) ∷ []

unfoldable pub network_number_checks : ℕ → List ℕ → List Check
network_number_checks n numbers = link_list_checks n numbers ++ each (given_link_checks n numbers) (given_links numbers) 0

-- A record that the reader accepts and that has these numbers.
pub record NetworkHas (n : ℕ) (numbers s : List ℕ) : Type 0 where
  pub bytes : Fit 1 s
  pub accepted : network_verdict s ≡ Accepted
  pub nodes : node_count s ≡ n
  pub links : link_numbers s ≡ numbers

abbrev pub network_write_checks : ℕ → List ℕ → ℕ → List Check
network_write_checks n numbers room = network_number_checks n numbers ++ room_check (link_start (given_links numbers)) room ∷ []

abbrev pub NetworkWritten : ℕ → List ℕ → List ℕ → List ℕ → Outcome → Type 0
NetworkWritten n numbers before after answer =
    Writing (first_of (network_write_checks n numbers (length before))) (network_record n numbers) before after answer

-- A request's n and value: 81, at any of the seven places too, of which those without a rider are to be 0; then 82 at any node.
abbrev pub place_fault : Request → ℕ → Bool
place_fault q j =
    cond (ltb j (rider_count_of q)) (outside 1 most_weight (rider_weight_of q j))
    (differ (rider_node_of q j) 0 || differ (rider_weight_of q j) 0)

abbrev pub place_checks : Request → ℕ → List Check
place_checks q j = check GivenNumber 0 (place_fault q j) ∷ []

unfoldable pub value_checks : ℕ → Request → List Check
value_checks n q =
    node_count_check n
    ∷ check GivenNumber 0 (ltb most_riders (rider_count_of q))
    ∷ check GivenNumber 0 (outside 1 most_weight (bus_weight_of q))
    ∷ each (place_checks q) most_riders 0

abbrev pub given_node_check : ℕ → ℕ → Check
given_node_check n node = check GivenNode 0 (leb n node)

abbrev pub given_rider_checks : ℕ → Request → ℕ → List Check
given_rider_checks n q j = given_node_check n (rider_node_of q j) ∷ []

unfoldable pub given_node_checks : ℕ → Request → List Check
given_node_checks n q =
    given_node_check n q.source ∷ given_node_check n q.target ∷ each (given_rider_checks n q) (rider_count_of q) 0

unfoldable pub request_number_checks : ℕ → Request → List Check
request_number_checks n q = value_checks n q ++ given_node_checks n q

-- A record that the reader accepts beside some network of n nodes and that has this value.
pub record RequestHas (n : ℕ) (q : Request) (s : List ℕ) : Type 0 where
  pub bytes : Fit 1 s
  pub network : List ℕ
  pub nodes : node_count network ≡ n
  pub accepted : request_verdict network s ≡ Accepted
  pub value : request_value s ≡ q

abbrev pub request_write_checks : ℕ → Request → ℕ → List Check
request_write_checks n q room = request_number_checks n q ++ room_check (rider_start (rider_count_of q)) room ∷ []

abbrev pub RequestWritten : ℕ → Request → List ℕ → List ℕ → Outcome → Type 0
RequestWritten n q before after answer = Writing (first_of (request_write_checks n q (length before))) (request_record q) before after answer

-- The value of a request as one list (4.13), and 81 for a list of another length, before all else.
abbrev pub value_numbers : ℕ
value_numbers = 18

unfoldable pub value_of : List ℕ → Request
value_of numbers =
    record {
      source = get_or numbers 0 0;
      target = get_or numbers 1 0;
      bus_weight = get_or numbers 2 0;
      rider_count = get_or numbers 3 0;
      nodes = seven_places (λ j. get_or numbers (4 + j) 0) most_riders;
      weights = seven_places (λ j. get_or numbers (11 + j) 0) most_riders;
    }

abbrev pub value_list_checks : ℕ → List ℕ → ℕ → List Check
value_list_checks n numbers room =
    check GivenNumber 0 (differ (length numbers) value_numbers) ∷ request_write_checks n (value_of numbers) room

abbrev pub ValueListWritten : ℕ → List ℕ → List ℕ → List ℕ → Outcome → Type 0
ValueListWritten n numbers before after answer =
    Writing (first_of (value_list_checks n numbers (length before))) (request_record (value_of numbers)) before after answer
