-- The request record (1.5): a version byte, the record's length in two bytes, source and target in two each, a byte for the bus
-- weight and one for the rider count; then for each rider the node in two bytes and a byte for the weight.
use Rattle.std.specs.Prelude.{ℕ, zero, suc, ◌+◌, ◌*◌, ◌≤◌, ◌<◌, ◌≡◌, cond, List, [], ◌∷◌, ◌++◌, map, length, get_or, ltb, leb}
use Rattle.rules.specs.Checks.{Verdict, Check, check, first_of, each, differ, outside, beside}
use Rattle.rules.specs.Limits.{most_riders, most_weight}
use Rattle.rules.specs.Numbers.{byte, two, bytes_of}
use Rattle.rules.specs.Network.{version_of, stated_length, opening_checks, opening_bytes, node_count, network_checks}
use Rattle.rules.specs.declared.refusal.Opening.{Opening}
use Rattle.rules.specs.declared.Request.{Request}
use Rattle.rules.specs.declared.RequestRead.{RequestRead}
use Rattle.rules.specs.declared.refusal.Fault.TheVariants.{RequestShort, RequestVersion, RequestLength, ManyRiders, RequestParts, RequestNode, RequestWeight}

abbrev pub source : List ℕ → ℕ
source s = two s 3

abbrev pub target : List ℕ → ℕ
target s = two s 5

abbrev pub bus_weight : List ℕ → ℕ
bus_weight s = byte s 7

abbrev pub rider_count : List ℕ → ℕ
rider_count s = byte s 8

abbrev pub rider_start : ℕ → ℕ
rider_start j = 9 + 3 * j

abbrev pub rider_node : List ℕ → ℕ → ℕ
rider_node s j = two s (rider_start j)

abbrev pub rider_weight : List ℕ → ℕ → ℕ
rider_weight s j = byte s (rider_start j + 2)

-- Refusals 14 and 15 (4.3): the limit of the rider count, and a length that is not that of so many riders.
unfoldable pub count_checks : List ℕ → List Check
count_checks s =
    check ManyRiders 0 (ltb most_riders (rider_count s)) ∷ check RequestParts 0 (differ (length s) (rider_start (rider_count s))) ∷ []

-- Refusal 16 (4.3): the places are those of the source, the target, and each rider.
abbrev pub node_check : ℕ → ℕ → ℕ → Check
node_check n place node = check RequestNode place (leb n node)

abbrev pub rider_node_checks : ℕ → List ℕ → ℕ → List Check
rider_node_checks n s j = node_check n (2 + j) (rider_node s j) ∷ []

unfoldable pub node_checks : ℕ → List ℕ → List Check
node_checks n s =
    node_check n 0 (source s) ∷ node_check n 1 (target s) ∷ each (rider_node_checks n s) (rider_count s) 0

-- Refusal 17 (4.3): the places are those of the bus and of each rider.
abbrev pub weight_check : ℕ → ℕ → Check
weight_check place weight = check RequestWeight place (outside 1 most_weight weight)

abbrev pub rider_weight_checks : List ℕ → ℕ → List Check
rider_weight_checks s j = weight_check (1 + j) (rider_weight s j) ∷ []

unfoldable pub weight_checks : List ℕ → List Check
weight_checks s = weight_check 0 (bus_weight s) ∷ each (rider_weight_checks s) (rider_count s) 0

abbrev pub request_opening : Opening
request_opening = record { latest = 1; size = 2; short = RequestShort; version = RequestVersion; length = RequestLength }

unfoldable pub request_checks : ℕ → List ℕ → List Check
request_checks n s = opening_checks request_opening s ++ (count_checks s ++ (node_checks n s ++ weight_checks s))

-- What a request record for a network of n nodes is that none of these checks refuses.
pub record SoundRequest (n : ℕ) (s : List ℕ) : Type 0 where
  pub long : 9 ≤ length s
  pub version : version_of s ≡ 1
  pub stated : stated_length 2 s ≡ length s
  pub riders : rider_count s ≤ most_riders
  pub whole : length s ≡ rider_start (rider_count s)
  pub starts : source s < n
  pub ends : target s < n
  pub nodes : (j : ℕ) → j < rider_count s → rider_node s j < n
  pub bus : (1 ≤ bus_weight s) × (bus_weight s ≤ most_weight)
  pub weights : (j : ℕ) → j < rider_count s → (1 ≤ rider_weight s j) × (rider_weight s j ≤ most_weight)

-- Both records: the network's refusals come first (1.7).
abbrev pub record_checks : List ℕ → List ℕ → List Check
record_checks network s = network_checks network ++ request_checks (node_count network) s

unfoldable pub request_verdict : List ℕ → List ℕ → Verdict
request_verdict network s = first_of (record_checks network s)

-- The value has a place for each rider that there may be; those that are not used are 0 (1.9).
unfoldable pub seven_places : (ℕ → ℕ) → ℕ → List ℕ
seven_places value used = map (λ j. cond (ltb j used) (value j) 0) (0 ∷ 1 ∷ 2 ∷ 3 ∷ 4 ∷ 5 ∷ 6 ∷ [])

unfoldable pub request_value : List ℕ → Request
request_value s =
    record {
      source = source s;
      target = target s;
      bus_weight = bus_weight s;
      rider_count = rider_count s;
      nodes = seven_places (rider_node s) (rider_count s);
      weights = seven_places (rider_weight s) (rider_count s);
    }

abbrev pub bus_weight_of : Request → ℕ
bus_weight_of q = q.bus_weight

abbrev pub rider_count_of : Request → ℕ
rider_count_of q = q.rider_count

abbrev pub rider_node_of : Request → ℕ → ℕ
rider_node_of q j = get_or q.nodes j 0

abbrev pub rider_weight_of : Request → ℕ → ℕ
rider_weight_of q j = get_or q.weights j 0

-- The record of such a value (1.11): its head, and the bytes of so many riders from rider j on.
abbrev pub request_head : Request → List ℕ
request_head q =
    opening_bytes 1 2 (rider_start (rider_count_of q))
    ++ bytes_of 2 q.source
    ++ bytes_of 2 q.target
    ++ bytes_of 1 (bus_weight_of q)
    ++ bytes_of 1 (rider_count_of q)

unfoldable pub riders_from : Request → ℕ → ℕ → List ℕ
riders_from q zero j = []
riders_from q (suc count) j = bytes_of 2 (rider_node_of q j) ++ bytes_of 1 (rider_weight_of q j) ++ riders_from q count (suc j)

abbrev pub request_record : Request → List ℕ
request_record q = request_head q ++ riders_from q (rider_count_of q) 0

-- A value has seven places of each kind, as its type says.
pub record Seven (q : Request) : Type 0 where
  pub nodes : length q.nodes ≡ most_riders
  pub weights : length q.weights ≡ most_riders

-- A sound request, as its value says it.
pub record SoundValue (n : ℕ) (q : Request) : Type 0 where
  pub riders : rider_count_of q ≤ most_riders
  pub starts : q.source < n
  pub ends : q.target < n
  pub nodes : (j : ℕ) → j < rider_count_of q → rider_node_of q j < n
  pub bus : (1 ≤ bus_weight_of q) × (bus_weight_of q ≤ most_weight)
  pub weights : (j : ℕ) → j < rider_count_of q → (1 ≤ rider_weight_of q j) × (rider_weight_of q j ≤ most_weight)

unfoldable pub no_request : Request
no_request =
    record {
      source = 0;
      target = 0;
      bus_weight = 0;
      rider_count = 0;
      nodes = seven_places (λ j. 0) 0;
      weights = seven_places (λ j. 0) 0;
    }

-- What reading gives (1.9): the value, and zeros throughout beside a refusal.
unfoldable pub request_of : List ℕ → List ℕ → RequestRead
request_of network s =
    record {
      verdict = request_verdict network s;
      request = beside (request_verdict network s) (request_value s) no_request;
    }
