-- A request's value and its record: what is written is read, and what is read is written again.
use Prim.Native.Nat.{ℕ, zero, suc, ◌+◌, ◌*◌, ◌≤◌, ◌<◌}
use native.Mathlib.Omega.{arith}
use native.Mathlib.Nat.{zero-add, add-zero}
use native.Mathlib.Decide.{dec_lt}
use mathlib.Core.Path.{◌≡◌, refl, sym, ◌∙◌, ap}
use mathlib.Core.Bool.{false}
use mathlib.Core.List.{List, [], ◌++◌, append-nil, append_assoc}
use lib.ListN.{length, get_or, take, length-append}
use lib.Seq.{take_all, ext_get_or, get_or-append-add}
use borrow.Author.Tests.{ltb-false, leb-false, le-ltb, lt-ltb, lt-leb, eq-eqb}
use Rattle.rules.specs.Checks.{first_of, Accepted}
use Rattle.rules.specs.Limits.{most_nodes, most_riders, most_weight}
use Rattle.rules.specs.Numbers.{byte, number, two, bytes_of, Fit}
use Rattle.rules.specs.Network.{version_of, stated_length, node_count, SoundNetwork}
use Rattle.rules.specs.Request.{source, target, bus_weight, rider_count, rider_start, rider_node, rider_weight, seven_places, request_value}
use Rattle.rules.specs.Request.{bus_weight_of, rider_count_of, rider_node_of, rider_weight_of, request_head, riders_from, request_record}
use Rattle.rules.specs.Request.{SoundRequest, SoundValue, Seven}
use Rattle.rules.specs.Writing.{place_fault, place_checks, value_checks, given_rider_checks, given_node_checks, request_number_checks}
use Rattle.rules.specs.declared.Request.{Request}
use Rattle.rules.proofs.Order.{accepted_head, accepted_front, accepted_rest, accepted_each, front_passed, all_pass}
use Rattle.rules.proofs.TestLaws.{neither, same, within, not_outside}
use Rattle.rules.proofs.SoundRequestLaws.{place_used, place_unused, value_sound}
use Rattle.rules.proofs.BytesLaws.{bytes_then, number_behind}

-- ---- what 81 and 82 leave: n, and a sound value whose places without a rider are 0
pub record WritableRequest (n : ℕ) (q : Request) : Type 0 where
  pub some_node : 1 ≤ n
  pub nodes : n ≤ most_nodes
  pub sound : SoundValue n q
  pub unused : (j : ℕ) → j < most_riders → rider_count_of q ≤ j → (rider_node_of q j ≡ 0) × (rider_weight_of q j ≡ 0)

module _ (q : Request) (j : ℕ) where
  fault_used : place_fault q j ≡ false → j < rider_count_of q → (1 ≤ rider_weight_of q j) × (rider_weight_of q j ≤ most_weight)
  fault_used e h = within 1 most_weight (rider_weight_of q j) (simp (lt-ltb _ _ h) at e)

  fault_unused : place_fault q j ≡ false → rider_count_of q ≤ j → (rider_node_of q j ≡ 0) × (rider_weight_of q j ≡ 0)
  fault_unused e h =
      let (node, weight) = neither _ _ (simp (le-ltb _ _ h) at e) in
      (same (rider_node_of q j) 0 node, same (rider_weight_of q j) 0 weight)

module _ (n : ℕ) (q : Request) where
  pub few_riders : first_of (value_checks n q) ≡ Accepted → rider_count_of q ≤ most_riders
  unfolding value_checks
  few_riders e =
      let (a, e₁) = accepted_head _ _ e in
      let (b, e₂) = accepted_head _ _ e₁ in
      ltb-false _ _ b

  pub value_accepted : first_of (request_number_checks n q) ≡ Accepted → WritableRequest n q
  unfolding request_number_checks value_checks given_node_checks
  value_accepted e =
      let (a, e₁) = accepted_head _ _ (accepted_front (value_checks n q) _ e) in
      let (b, e₂) = accepted_head _ _ e₁ in
      let (c, e₃) = accepted_head _ _ e₂ in
      let (d, f₁) = accepted_head _ _ (accepted_rest (value_checks n q) _ e) in
      let (g, f₂) = accepted_head _ _ f₁ in
      let few = ltb-false _ _ b in
      let place : (j : ℕ) → j < most_riders → place_fault q j ≡ false =
      λ j h. rw zero-add at (accepted_head _ _ (accepted_each (place_checks q) most_riders 0 e₃ j h)).0 in
      record {
        some_node = (within _ _ _ a).0;
        nodes = (within _ _ _ a).1;
        sound = record {
          riders = few;
          starts = leb-false _ _ d;
          ends = leb-false _ _ g;
          nodes = λ j h. leb-false _ _ (rw zero-add at (accepted_head _ _ (accepted_each (given_rider_checks n q) (rider_count_of q) 0 f₂ j h)).0);
          bus = within _ _ _ c;
          weights = λ j h. fault_used q j (place j (omega (arith, few))) h;
        };
        unused = λ j h. fault_unused q j (place j h);
      }

  module _ (so : WritableRequest n q) where
    place_accepts : (j : ℕ) → j < most_riders → first_of (place_checks q j) ≡ Accepted
    unfolding first_of
    place_accepts j h = elim (dec_lt j (rider_count_of q)) [
      | yes g ↦ simp (lt-ltb _ _ g, not_outside _ _ _ (so.sound.weights j g).0 (so.sound.weights j g).1)
      | no g ↦ (
          let (node, weight) = so.unused j h (omega arith) in
          simp (le-ltb j (rider_count_of q) (omega arith), eq-eqb _ _ node, eq-eqb _ _ weight)
          )
    ]

    value_accepts : first_of (value_checks n q) ≡ Accepted
    unfolding value_checks first_of
    value_accepts =
        simp (
          not_outside _ _ _ so.some_node so.nodes,
          le-ltb _ _ so.sound.riders,
          not_outside _ _ _ so.sound.bus.0 so.sound.bus.1,
        ) (all_pass (place_checks q) most_riders 0 (λ j h. rw zero-add (place_accepts j h)))

    rider_accepts : (j : ℕ) → j < rider_count_of q → first_of (given_rider_checks n q j) ≡ Accepted
    unfolding first_of
    rider_accepts j h = simp (lt-leb _ _ (so.sound.nodes j h))

    pub value_accept : first_of (request_number_checks n q) ≡ Accepted
    unfolding request_number_checks given_node_checks first_of
    value_accept =
        front_passed (value_checks n q) _ value_accepts
        ∙ simp (lt-leb _ _ so.sound.starts, lt-leb _ _ so.sound.ends)
        (all_pass (given_rider_checks n q) (rider_count_of q) 0 (λ j h. rw zero-add (rider_accepts j h)))

-- ---- what stands in the record of such a value
pub riders_length : (q : Request) (count j : ℕ) → length (riders_from q count j) ≡ 3 * count
unfolding riders_from bytes_of
riders_length q zero j = refl
riders_length q (suc count) j = omega (arith, riders_length q count (suc j))

module _ (q : Request) where
  riders_at : (count j i : ℕ) → i < count → rider_node_of q (j + i) < 65536 → rider_weight_of q (j + i) < 256
      → (two (riders_from q count j) (3 * i) ≡ rider_node_of q (j + i)) × (byte (riders_from q count j) (3 * i + 2) ≡ rider_weight_of q (j + i))
  unfolding riders_from number bytes_of
  riders_at zero j i h node weight = absurd (omega arith)
  riders_at (suc count) j zero h node weight = rw add-zero (omega (arith, rw add-zero at node), omega (arith, rw add-zero at weight))
  riders_at (suc count) j (suc i) h node weight =
      rw (moved, node_place, weight_place) (rw (
        number_behind front rest 2 (3 * i),
        get_or-append-add front rest (3 * i + 2) 0,
      ) (riders_at count (suc j) i (omega arith) (rw moved at node) (rw moved at weight)))
    where
      front : List ℕ
      front = bytes_of 2 (rider_node_of q j) ++ bytes_of 1 (rider_weight_of q j)

      rest : List ℕ
      rest = riders_from q count (suc j)

      moved : j + suc i ≡ suc j + i
      moved = omega arith

      node_place : 3 * suc i ≡ length front + 3 * i
      node_place = omega arith

      weight_place : length front + 3 * i + 2 ≡ length front + (3 * i + 2)
      weight_place = omega arith

  module _ (rest : List ℕ) where
    head_version : version_of (request_head q ++ rest) ≡ 1
    unfolding bytes_of
    head_version = refl

    head_length : rider_start (rider_count_of q) < 65536 → stated_length 2 (request_head q ++ rest) ≡ rider_start (rider_count_of q)
    unfolding number bytes_of
    head_length h = omega arith

    head_source : q.source < 65536 → source (request_head q ++ rest) ≡ q.source
    unfolding number bytes_of
    head_source h = omega arith

    head_target : q.target < 65536 → target (request_head q ++ rest) ≡ q.target
    unfolding number bytes_of
    head_target h = omega arith

    head_bus : bus_weight_of q < 256 → bus_weight (request_head q ++ rest) ≡ bus_weight_of q
    unfolding bytes_of
    head_bus h = omega arith

    head_riders : rider_count_of q < 256 → rider_count (request_head q ++ rest) ≡ rider_count_of q
    unfolding bytes_of
    head_riders h = omega arith

module _ {n : ℕ} {q : Request} (so : WritableRequest n q) where
  module _ (j : ℕ) (h : j < rider_count_of q) where
    rider_written : (two (riders_from q (rider_count_of q) 0) (3 * j) ≡ rider_node_of q j)
        × (byte (riders_from q (rider_count_of q) 0) (3 * j + 2) ≡ rider_weight_of q j)
    rider_written =
        rw zero-add at (riders_at q (rider_count_of q) 0 j h (rw zero-add (omega (arith, so.sound.nodes j h, so.nodes)))
        (rw zero-add (omega (arith, (so.sound.weights j h).1))))

    written_node : rider_node (request_record q) j ≡ rider_node_of q j
    unfolding bytes_of
    written_node = number_behind (request_head q) (riders_from q (rider_count_of q) 0) 2 (3 * j) ∙ rider_written.0

    written_weight : rider_weight (request_record q) j ≡ rider_weight_of q j
    unfolding bytes_of
    written_weight =
        let place : 9 + 3 * j + 2 ≡ 9 + (3 * j + 2) = omega arith in
        rw place (get_or-append-add (request_head q) (riders_from q (rider_count_of q) 0) (3 * j + 2) 0 ∙ rider_written.1)

  written_count : rider_count (request_record q) ≡ rider_count_of q
  written_count = head_riders q (riders_from q (rider_count_of q) 0) (omega (arith, so.sound.riders))

  pub written_length : length (request_record q) ≡ rider_start (rider_count_of q)
  unfolding bytes_of
  written_length = omega (arith, length-append (request_head q) (riders_from q (rider_count_of q) 0), riders_length q (rider_count_of q) 0)

  written_source : source (request_record q) ≡ q.source
  written_source = head_source q (riders_from q (rider_count_of q) 0) (omega (arith, so.sound.starts, so.nodes))

  written_target : target (request_record q) ≡ q.target
  written_target = head_target q (riders_from q (rider_count_of q) 0) (omega (arith, so.sound.ends, so.nodes))

  written_bus : bus_weight (request_record q) ≡ bus_weight_of q
  written_bus = head_bus q (riders_from q (rider_count_of q) 0) (omega (arith, so.sound.bus.1))

  pub written_sound : SoundRequest n (request_record q)
  written_sound =
      record {
        long = omega (arith, written_length);
        version = head_version q (riders_from q (rider_count_of q) 0);
        stated = head_length q (riders_from q (rider_count_of q) 0) (omega (arith, so.sound.riders)) ∙ sym written_length;
        riders = omega (arith, written_count, so.sound.riders);
        whole = written_length ∙ ap rider_start (sym written_count);
        starts = omega (arith, written_source, so.sound.starts);
        ends = omega (arith, written_target, so.sound.ends);
        nodes = λ j h. let k : j < rider_count_of q = omega (arith, written_count) in rw (written_node j k) (so.sound.nodes j k);
        bus = rw written_bus so.sound.bus;
        weights = λ j h. let k : j < rider_count_of q = omega (arith, written_count) in rw (written_weight j k) (so.sound.weights j k);
      }

  -- Seven places that hold the riders' numbers, and 0 where there is no rider.
  seven_places_hold : (value : ℕ → ℕ) (xs : List ℕ) → length xs ≡ most_riders → ((j : ℕ) → j < rider_count_of q → value j ≡ get_or xs j 0)
      → ((j : ℕ) → j < most_riders → rider_count_of q ≤ j → get_or xs j 0 ≡ 0) → seven_places value (rider_count_of q) ≡ xs
  unfolding seven_places
  seven_places_hold value xs size used unused = ext_get_or 0 (seven_places value (rider_count_of q)) xs (sym size) (λ j h. place j h (dec_lt j (rider_count_of q)))
    where
      place : (j : ℕ) → j < most_riders → Dec (j < rider_count_of q) → get_or (seven_places value (rider_count_of q)) j 0 ≡ get_or xs j 0
      place j h (yes g) = place_used value (rider_count_of q) j h g ∙ used j g
      place j h (no g) =
          place_unused value (rider_count_of q) j h (omega arith) ∙ sym (unused j h (omega arith))

  pub written_value : Seven q → request_value (request_record q) ≡ q
  unfolding request_value
  written_value seven = λ i.
      record {
        source = written_source i;
        target = written_target i;
        bus_weight = written_bus i;
        rider_count = written_count i;
        nodes = nodes i;
        weights = weights i;
      }
    where
      nodes : seven_places (rider_node (request_record q)) (rider_count (request_record q)) ≡ q.nodes
      nodes = rw written_count (seven_places_hold (rider_node (request_record q)) q.nodes seven.nodes written_node (λ j h g. (so.unused j h g).0))

      weights : seven_places (rider_weight (request_record q)) (rider_count (request_record q)) ≡ q.weights
      weights = rw written_count (seven_places_hold (rider_weight (request_record q)) q.weights seven.weights written_weight (λ j h g. (so.unused j h g).1))

-- ---- the record of the value that was read
module _ {n : ℕ} {s : List ℕ} (bytes : Fit 1 s) (so : SoundRequest n s) where
  one : (i : ℕ) → byte s i ≡ number 1 s i
  unfolding number
  one i = rw add-zero (omega arith)

  read_head : request_head (request_value s) ≡ take 9 s
  unfolding request_value
  read_head =
      let long = so.long in
      bytes_then bytes 1 8
      (bytes_then bytes 1 7
      (bytes_then bytes 2 5
      (bytes_then bytes 2 3
      (bytes_then bytes 2 1
      (bytes_then bytes 1 0 {front = []} refl (sym so.version ∙ one 0) (omega arith))
      (sym (so.stated ∙ so.whole)) (omega arith))
      refl (omega arith))
      refl (omega arith))
      (one 7) (omega arith))
      (one 8) long

  read_riders : (count j : ℕ) → j + count ≡ rider_count s → take (rider_start j) s ++ riders_from (request_value s) count j ≡ s
  unfolding riders_from request_value
  read_riders zero j e = append-nil (take (rider_start j) s) ∙ take_all (rider_start j) s (omega (arith, so.whole))
  read_riders (suc count) j e =
      sym (append_assoc (take (rider_start j) s) (node ++ weight) later)
      ∙ ap (λ (front : List ℕ). front ++ later) (sym (append_assoc (take (rider_start j) s) node weight) ∙ rider)
      ∙ rw next (read_riders count (suc j) (omega arith))
    where
      node : List ℕ
      node = bytes_of 2 (rider_node_of (request_value s) j)

      weight : List ℕ
      weight = bytes_of 1 (rider_weight_of (request_value s) j)

      later : List ℕ
      later = riders_from (request_value s) count (suc j)

      few : j < most_riders
      few = omega (arith, so.riders)

      next : rider_start j + 2 + 1 ≡ rider_start (suc j)
      next = omega arith

      rider : take (rider_start j) s ++ node ++ weight ≡ take (rider_start j + 2 + 1) s
      rider =
          bytes_then bytes 1 (rider_start j + 2)
          (bytes_then bytes 2 (rider_start j) refl (place_used (rider_node s) (rider_count s) j few (omega arith)) (omega (arith, so.whole)))
          (place_used (rider_weight s) (rider_count s) j few (omega arith) ∙ one (rider_start j + 2)) (omega (arith, so.whole))

  pub read_again : request_record (request_value s) ≡ s
  unfolding request_value
  read_again = rw read_head (read_riders (rider_count s) 0 (omega arith))

pub read_writable : {network s : List ℕ} → SoundNetwork network → SoundRequest (node_count network) s → WritableRequest (node_count network) (request_value s)
unfolding request_value
read_writable {network} {s} one other =
    record {
      some_node = one.some_node;
      nodes = one.nodes;
      sound = value_sound _ s other;
      unused = λ j h g. (place_unused (rider_node s) (rider_count s) j h g, place_unused (rider_weight s) (rider_count s) j h g);
    }
