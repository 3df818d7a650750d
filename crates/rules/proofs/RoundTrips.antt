-- Writers and readers are each other's inverse, and a writer refuses exactly the numbers that no accepted record has (1.11, 1.12).
use Prim.Native.Nat.{ℕ, zero, suc, ◌≤◌}
use native.Mathlib.Omega.{arith}
use mathlib.Core.Path.{◌≡◌, refl, ◌∙◌, ap}
use mathlib.Core.Logic.{◌⊎◌, inl, inr, ◌≢◌}
use mathlib.Core.Bool.{not}
use mathlib.Core.List.{List, [], ◌∷◌}
use lib.ListN.{length, take}
use native.Mathlib.Decide.{ℕ_discrete}
use borrow.Author.Tests.{eq-eqb, ne_eqb}
use Rattle.rules.specs.Checks.{first_of, Accepted}
use Rattle.rules.specs.Numbers.{Fit}
use Rattle.rules.specs.Network.{given_links, node_count, link_start, network_record, network_verdict, network_of}
use Rattle.rules.specs.Limits.{most_nodes, most_links, most_riders}
use Rattle.rules.specs.Request.{Seven, rider_start, seven_places, request_record, riders_from, request_verdict, request_of, rider_count_of}
use Rattle.rules.specs.Answers.{Outcome, gives, refuses}
use Rattle.rules.specs.Writing.{link_list_checks, given_link_checks, network_number_checks, NetworkHas, NetworkWritten}
use Rattle.rules.specs.Writing.{place_checks, value_checks, given_rider_checks, given_node_checks, request_number_checks, request_write_checks, RequestHas, RequestWritten}
use Rattle.rules.specs.Writing.{value_numbers, value_of, ValueListWritten}
use Rattle.rules.specs.declared.refusal.Fault.TheVariants.{GivenNumber}
use Rattle.rules.specs.declared.Request.{Request}
use Rattle.rules.proofs.Clash.{clash}
use Rattle.rules.proofs.Order.{given, passed}
use Rattle.rules.proofs.Refusals.{Gives, none_given, append_given, each_given}
use Rattle.rules.proofs.BytesLaws.{append_fit, bytes_fit, twos_fit}
use Rattle.rules.proofs.SoundNetworkLaws.{network_sound, sound_network}
use Rattle.rules.proofs.SoundRequestLaws.{records_sound, sound_records}
use Rattle.rules.proofs.NetworkWritingLaws.{numbers_accepted, numbers_accept, written_nodes, written_links, written_length, written_numbers, read_writable}
use Rattle.rules.proofs.RequestWritingLaws.{value_accepted, value_accept, written_value, read_writable as request-writable}
use Rattle.rules.proofs.RequestWritingLaws.{written_sound as request-written-sound, written_length as request-length, read_again as request-read-again}
use Rattle.rules.proofs.NetworkWritingLaws.{written_sound as network-written-sound, read_again as network-read-again}
use Rattle.rules.proofs.WriterLaws.{NumberRefused, wrote, writes, wants_room, wants_numbers, number_check}

-- ---- networks
pub network_refusals : (n : ℕ) (numbers : List ℕ) → Gives NumberRefused (network_number_checks n numbers)
unfolding network_number_checks link_list_checks
network_refusals n numbers =
    append_given (link_list_checks n numbers)
    (number_check (inl refl) (number_check (inl refl) (number_check (inl refl) none_given)))
    (λ passed. each_given (given_link_checks n numbers) (given_links numbers) 0 (λ k h. number_check (inr refl) none_given))

record_bytes : (n : ℕ) (numbers : List ℕ) → Fit 1 (network_record n numbers)
record_bytes n numbers =
    append_fit (append_fit (append_fit (append_fit (bytes_fit 1 1) (bytes_fit 4 _)) (bytes_fit 2 n)) (bytes_fit 2 _)) (twos_fit numbers)

module _ {n : ℕ} {numbers : List ℕ} where
  network_passes : {s : List ℕ} → NetworkHas n numbers s → first_of (network_number_checks n numbers) ≡ Accepted
  network_passes so =
      rw (← so.nodes, ← so.links) (numbers_accept _ _ (read_writable so.bytes (network_sound _ so.accepted)))

  network_is : {s : List ℕ} → NetworkHas n numbers s → network_record n numbers ≡ s
  network_is so = rw (← so.nodes, ← so.links) (network-read-again so.bytes (network_sound _ so.accepted))

  network_has : Fit 2 numbers → first_of (network_number_checks n numbers) ≡ Accepted → NetworkHas n numbers (network_record n numbers)
  network_has fit passed =
      let so = numbers_accepted n numbers passed in
      record {
        bytes = record_bytes n numbers;
        accepted = sound_network _ (network-written-sound so fit);
        nodes = written_nodes so;
        links = written_numbers so fit;
      }

  module _ {before after : List ℕ} where
    -- What is written is read with the n, the m and the list that were handed in.
    pub network_read_back : {size : ℕ} → Fit 2 numbers → NetworkWritten n numbers before after (gives (size ∷ []))
        → NetworkHas n numbers (take size after) × (network_of (take size after) ≡ record { verdict = Accepted; n = n; m = given_links numbers })
    unfolding network_of
    network_read_back {size} fit so =
        let (passed, told, stands) = wrote (network_number_checks n numbers) _ _ before after so in
        let same : size ≡ length (network_record n numbers) = cc in
        let has = network_has fit passed in
        rw (same, stands) (has, rw (has.accepted, has.nodes, written_links (numbers_accepted n numbers passed)))

    -- What is accepted, written again, is the same record.
    pub network_written_again : {s : List ℕ} {answer : Outcome} → NetworkHas n numbers s → length s ≤ length before
        → NetworkWritten n numbers before after answer → (answer ≡ gives (length s ∷ [])) × (take (length s) after ≡ s)
    network_written_again {s} has room so =
        let passed = network_passes has in
        let long = written_length (numbers_accepted n numbers passed) in
        rw (← network_is has) (writes (network_number_checks n numbers) _ _ before after passed (omega (arith, long, ap length (network_is has))) so)

    -- 81 and 82 are told of no numbers that an accepted record has,
    pub network_refused_none : {number place : ℕ} {s : List ℕ} → NetworkWritten n numbers before after (refuses number place) → number ≢ 83
        → NetworkHas n numbers s → ⊥
    network_refused_none so other has = other (wants_room (network_number_checks n numbers) _ _ before after (network_passes has) so)

    -- and of all others.
    pub network_none_refused : {answer : Outcome} → Fit 2 numbers → ((s : List ℕ) → NetworkHas n numbers s → ⊥)
        → NetworkWritten n numbers before after answer → (answer ≡ refuses 81 0) ⊎ (answer ≡ refuses 82 0)
    network_none_refused fit none so =
        wants_numbers (network_number_checks n numbers) _ _ before after (network_refusals n numbers)
        (λ passed. none (network_record n numbers) (network_has fit passed)) so

-- ---- requests
pub request_refusals : (n : ℕ) (q : Request) → Gives NumberRefused (request_number_checks n q)
unfolding request_number_checks value_checks given_node_checks
request_refusals n q =
    append_given (value_checks n q)
    (number_check (inl refl) (number_check (inl refl) (number_check (inl refl)
    (each_given (place_checks q) most_riders 0 (λ j h. number_check (inl refl) none_given)))))
    (λ passed. number_check (inr refl) (number_check (inr refl)
    (each_given (given_rider_checks n q) (rider_count_of q) 0 (λ j h. number_check (inr refl) none_given))))

riders_bytes : (q : Request) (count j : ℕ) → Fit 1 (riders_from q count j)
unfolding riders_from
riders_bytes q zero j = record { below = λ i. omega arith }
riders_bytes q (suc count) j = append_fit (append_fit (bytes_fit 2 _) (bytes_fit 1 _)) (riders_bytes q count (suc j))

request_bytes : (q : Request) → Fit 1 (request_record q)
request_bytes q =
    append_fit
    (append_fit (append_fit (append_fit (append_fit (append_fit (bytes_fit 1 1) (bytes_fit 2 _)) (bytes_fit 2 _)) (bytes_fit 2 _)) (bytes_fit 1 _))
    (bytes_fit 1 _))
    (riders_bytes q (rider_count_of q) 0)

-- n nodes without a link
bare : {n : ℕ} → 1 ≤ n → n ≤ most_nodes → NetworkHas n [] (network_record n [])
bare some few =
    network_has (record { below = λ i. omega arith })
    (numbers_accept _ [] (record { some_node = some; nodes = few; whole = refl; links = omega arith; starts = λ k h. absurd (omega arith); ends = λ k h. absurd (omega arith) }))

request_accepted : {n : ℕ} (q : Request) (network : List ℕ) → network_verdict network ≡ Accepted → node_count network ≡ n
    → first_of (request_number_checks n q) ≡ Accepted → request_verdict network (request_record q) ≡ Accepted
request_accepted {n} q network sound nodes passed =
    sound_records network _ (network_sound network sound) (rw nodes (request-written-sound (value_accepted n q passed)))

module _ {n : ℕ} {q : Request} where
  request_passes : {s : List ℕ} → RequestHas n q s → first_of (request_number_checks n q) ≡ Accepted
  request_passes so =
      let (network, request) = records_sound _ _ so.accepted in
      rw (← so.nodes, ← so.value) (value_accept _ _ (request-writable network request))

  request_is : {s : List ℕ} → RequestHas n q s → request_record q ≡ s
  request_is so = rw (← so.value) (request-read-again so.bytes (records_sound _ _ so.accepted).1)

  request_has : Seven q → first_of (request_number_checks n q) ≡ Accepted → RequestHas n q (request_record q)
  request_has seven passed =
      let so = value_accepted n q passed in
      let network = bare so.some_node so.nodes in
      record {
        bytes = request_bytes q;
        network = network_record n [];
        nodes = network.nodes;
        accepted = request_accepted q (network_record n []) network.accepted network.nodes passed;
        value = written_value so seven;
      }

  module _ {before after : List ℕ} where
    -- What is written is read, beside each sound network of n nodes, as the value that was handed in.
    pub request_read_back : {size : ℕ} → Seven q → RequestWritten n q before after (gives (size ∷ []))
        → (network : List ℕ) → network_verdict network ≡ Accepted → node_count network ≡ n
        → request_of network (take size after) ≡ record { verdict = Accepted; request = q }
    unfolding request_of
    request_read_back {size} seven so network sound nodes =
        let (passed, told, stands) = wrote (request_number_checks n q) _ _ before after so in
        let same : size ≡ length (request_record q) = cc in
        rw (same, stands, request_accepted q network sound nodes passed, written_value (value_accepted n q passed) seven)

    -- What is accepted, written again, is the same record.
    pub request_written_again : {s : List ℕ} {answer : Outcome} → RequestHas n q s → length s ≤ length before
        → RequestWritten n q before after answer → (answer ≡ gives (length s ∷ [])) × (take (length s) after ≡ s)
    request_written_again {s} has room so =
        let passed = request_passes has in
        let long = request-length (value_accepted n q passed) in
        rw (← request_is has) (writes (request_number_checks n q) _ _ before after passed (omega (arith, long, ap length (request_is has))) so)

    -- 81 and 82 are told of no value that an accepted record has,
    pub request_refused_none : {number place : ℕ} {s : List ℕ} → RequestWritten n q before after (refuses number place) → number ≢ 83
        → RequestHas n q s → ⊥
    request_refused_none so other has = other (wants_room (request_number_checks n q) _ _ before after (request_passes has) so)

    -- and of all others.
    pub request_none_refused : {answer : Outcome} → Seven q → ((s : List ℕ) → RequestHas n q s → ⊥)
        → RequestWritten n q before after answer → (answer ≡ refuses 81 0) ⊎ (answer ≡ refuses 82 0)
    request_none_refused seven none so =
        wants_numbers (request_number_checks n q) _ _ before after (request_refusals n q)
        (λ passed. none (request_record q) (request_has seven passed)) so

-- ---- how long a record is
pub network_size_told : (n : ℕ) (numbers : List ℕ) {before after : List ℕ} {size : ℕ} → NetworkWritten n numbers before after (gives (size ∷ []))
    → (size ≡ link_start (given_links numbers)) × (given_links numbers ≤ most_links)
network_size_told n numbers {before} {after} {size} so =
    let (passed, told, stands) = wrote (network_number_checks n numbers) _ _ before after so in
    let same : size ≡ length (network_record n numbers) = cc in
    let writable = numbers_accepted n numbers passed in
    (same ∙ written_length writable, writable.links)

pub request_size : (n : ℕ) (q : Request) {before after : List ℕ} {size : ℕ} → RequestWritten n q before after (gives (size ∷ []))
    → (size ≡ rider_start (rider_count_of q)) × (rider_count_of q ≤ most_riders)
request_size n q {before} {after} {size} so =
    let (passed, told, stands) = wrote (request_number_checks n q) _ _ before after so in
    let same : size ≡ length (request_record q) = cc in
    let writable = value_accepted n q passed in
    (same ∙ request-length writable, writable.sound.riders)

-- ---- a value as one list: of the right length it is the value that is written, and of any other it is refused
module _ (n : ℕ) (numbers : List ℕ) {before after : List ℕ} {answer : Outcome} (so : ValueListWritten n numbers before after answer) where
  pub list_value : length numbers ≡ value_numbers → RequestWritten n (value_of numbers) before after answer
  list_value e = rw (passed GivenNumber 0 (request_write_checks n (value_of numbers) (length before)) (ap not (eq-eqb _ _ e))) at so

  pub list_refused : length numbers ≢ value_numbers → answer ≡ refuses 81 0
  list_refused other =
      rw (given GivenNumber 0 (request_write_checks n (value_of numbers) (length before)) (ap not (ne_eqb (length numbers) value_numbers other))) at so.answers

  pub list_written : {values : List ℕ} → answer ≡ gives values → length numbers ≡ value_numbers
  list_written e = elim (ℕ_discrete (length numbers) value_numbers) [ yes same ↦ same | no other ↦ (let told = list_refused other in clash (cc)) ]

-- which has seven places of each kind
pub list_seven : (numbers : List ℕ) → Seven (value_of numbers)
unfolding value_of seven_places
list_seven numbers = record { nodes = refl; weights = refl }
