-- A request record is accepted exactly when it and its network record are sound.
use Prim.Native.Nat.{ℕ, zero, suc, ◌+◌, ◌≤◌, ◌<◌}
use native.Mathlib.Omega.{arith}
use native.Mathlib.Nat.{zero-add}
use mathlib.Core.Path.{◌≡◌, refl, ◌∙◌}
use mathlib.Core.Bool.{cond}
use mathlib.Core.List.{List}
use lib.ListN.{length, get_or, set}
use lib.Dec.{ltb}
use borrow.Author.Tests.{ltb-false, leb-false, le-ltb, lt-ltb, lt-leb, eq-eqb}
use Rattle.rules.specs.Checks.{first_of, Accepted}
use Rattle.rules.specs.Limits.{most_riders, most_weight}
use Rattle.rules.specs.Network.{opening_checks, node_count, network_checks, network_verdict, SoundNetwork}
use Rattle.rules.specs.Request.{source, target, bus_weight, rider_count, rider_start, rider_node, rider_weight, request_opening}
use Rattle.rules.specs.Request.{count_checks, rider_node_checks, node_checks, rider_weight_checks, weight_checks, request_checks, request_verdict}
use Rattle.rules.specs.Request.{SoundRequest, seven_places, request_value, SoundValue}
use Rattle.rules.proofs.Order.{accepted_head, accepted_front, accepted_rest, accepted_each, front_passed, all_pass}
use Rattle.rules.proofs.TestLaws.{same, within, not_outside}
use Rattle.rules.proofs.OpeningLaws.{opening_accepted, opened_accepts}
use Rattle.rules.proofs.SoundNetworkLaws.{network_sound, sound_network}

-- the rider count of a request record
pub record Counted (s : List ℕ) : Type 0 where
  pub riders : rider_count s ≤ most_riders
  pub whole : length s ≡ rider_start (rider_count s)

pub count_accepted : (s : List ℕ) → first_of (count_checks s) ≡ Accepted → Counted s
unfolding count_checks
count_accepted s e =
    let (a, e₁) = accepted_head _ _ e in
    let (b, e₂) = accepted_head _ _ e₁ in
    record { riders = ltb-false _ _ a; whole = same _ _ b }

-- the nodes that a request record names
record Placed (n : ℕ) (s : List ℕ) : Type 0 where
  starts : source s < n
  ends : target s < n
  nodes : (j : ℕ) → j < rider_count s → rider_node s j < n

nodes_accepted : (n : ℕ) (s : List ℕ) → first_of (node_checks n s) ≡ Accepted → Placed n s
unfolding node_checks
nodes_accepted n s e =
    let (a, e₁) = accepted_head _ _ e in
    let (b, e₂) = accepted_head _ _ e₁ in
    record {
      starts = leb-false _ _ a;
      ends = leb-false _ _ b;
      nodes = λ j h. leb-false _ _ (rw zero-add at (accepted_head _ _ (accepted_each (rider_node_checks n s) (rider_count s) 0 e₂ j h)).0);
    }

-- the weights of a request record
record Weighed (s : List ℕ) : Type 0 where
  bus : (1 ≤ bus_weight s) × (bus_weight s ≤ most_weight)
  weights : (j : ℕ) → j < rider_count s → (1 ≤ rider_weight s j) × (rider_weight s j ≤ most_weight)

weights_accepted : (s : List ℕ) → first_of (weight_checks s) ≡ Accepted → Weighed s
unfolding weight_checks
weights_accepted s e =
    let (a, e₁) = accepted_head _ _ e in
    record {
      bus = within _ _ _ a;
      weights = λ j h. within _ _ _ (rw zero-add at (accepted_head _ _ (accepted_each (rider_weight_checks s) (rider_count s) 0 e₁ j h)).0);
    }

-- the numbers of a request record that is accepted
pub request_sound : (n : ℕ) (s : List ℕ) → first_of (request_checks n s) ≡ Accepted → SoundRequest n s
unfolding request_checks
request_sound n s e =
    let opening = opening_accepted request_opening s (accepted_front _ _ e) in
    let e₁ = accepted_rest (opening_checks request_opening s) _ e in
    let counted = count_accepted s (accepted_front _ _ e₁) in
    let e₂ = accepted_rest (count_checks s) _ e₁ in
    let placed = nodes_accepted n s (accepted_front _ _ e₂) in
    let weighed = weights_accepted s (accepted_rest (node_checks n s) _ e₂) in
    record {
      long = opening.long;
      version = omega arith;
      stated = opening.stated;
      riders = counted.riders;
      whole = counted.whole;
      starts = placed.starts;
      ends = placed.ends;
      nodes = placed.nodes;
      bus = weighed.bus;
      weights = weighed.weights;
    }

count_accepts : {n : ℕ} (s : List ℕ) → SoundRequest n s → first_of (count_checks s) ≡ Accepted
unfolding count_checks first_of
count_accepts s so = simp (le-ltb _ _ so.riders, eq-eqb _ _ so.whole)

rider_node_accepts : (n : ℕ) (s : List ℕ) → SoundRequest n s → (j : ℕ) → j < rider_count s → first_of (rider_node_checks n s j) ≡ Accepted
unfolding first_of
rider_node_accepts n s so j h = simp (lt-leb _ _ (so.nodes j h))

nodes_accept : (n : ℕ) (s : List ℕ) → SoundRequest n s → first_of (node_checks n s) ≡ Accepted
unfolding node_checks first_of
nodes_accept n s so =
    simp (lt-leb _ _ so.starts, lt-leb _ _ so.ends)
    (all_pass (rider_node_checks n s) (rider_count s) 0 (λ j h. rw zero-add (rider_node_accepts n s so j h)))

rider_weight_accepts : {n : ℕ} (s : List ℕ) → SoundRequest n s → (j : ℕ) → j < rider_count s → first_of (rider_weight_checks s j) ≡ Accepted
unfolding first_of
rider_weight_accepts s so j h = simp (not_outside _ _ _ (so.weights j h).0 (so.weights j h).1)

weights_accept : {n : ℕ} (s : List ℕ) → SoundRequest n s → first_of (weight_checks s) ≡ Accepted
unfolding weight_checks first_of
weights_accept s so =
    simp (not_outside _ _ _ so.bus.0 so.bus.1)
    (all_pass (rider_weight_checks s) (rider_count s) 0 (λ j h. rw zero-add (rider_weight_accepts s so j h)))

-- no sound request record is refused
pub sound_request : (n : ℕ) (s : List ℕ) → SoundRequest n s → first_of (request_checks n s) ≡ Accepted
unfolding request_checks
sound_request n s so =
    front_passed (opening_checks request_opening s) _
    (opened_accepts request_opening s (record { long = so.long; version = (omega arith, omega arith); stated = so.stated }))
    ∙ front_passed (count_checks s) _ (count_accepts s so)
    ∙ front_passed (node_checks n s) _ (nodes_accept n s so)
    ∙ weights_accept s so

-- both records
pub records_sound : (network s : List ℕ) → request_verdict network s ≡ Accepted → SoundNetwork network × SoundRequest (node_count network) s
unfolding request_verdict network_verdict
records_sound network s e = (
  network_sound network (accepted_front (network_checks network) _ e),
  request_sound (node_count network) s (accepted_rest (network_checks network) _ e),
)

pub sound_records : (network s : List ℕ) → SoundNetwork network → SoundRequest (node_count network) s → request_verdict network s ≡ Accepted
unfolding request_verdict network_verdict
sound_records network s a b =
    front_passed (network_checks network) _ (sound_network network a) ∙ sound_request (node_count network) s b

-- place j of seven: a rider's number where it is used
place_at : (value : ℕ → ℕ) (used j : ℕ) → j < most_riders → get_or (seven_places value used) j 0 ≡ cond (ltb j used) (value j) 0
unfolding seven_places
place_at value used zero h = refl
place_at value used (suc zero) h = refl
place_at value used (suc (suc zero)) h = refl
place_at value used (suc (suc (suc zero))) h = refl
place_at value used (suc (suc (suc (suc zero)))) h = refl
place_at value used (suc (suc (suc (suc (suc zero))))) h = refl
place_at value used (suc (suc (suc (suc (suc (suc zero)))))) h = refl
place_at value used (suc (suc (suc (suc (suc (suc (suc j))))))) h = absurd (omega arith)

pub place_used : (value : ℕ → ℕ) (used j : ℕ) → j < most_riders → j < used → get_or (seven_places value used) j 0 ≡ value j
place_used value used j h g = place_at value used j h ∙ simp (lt-ltb _ _ g)

pub place_unused : (value : ℕ → ℕ) (used j : ℕ) → j < most_riders → used ≤ j → get_or (seven_places value used) j 0 ≡ 0
place_unused value used j h g = place_at value used j h ∙ simp (le-ltb _ _ g)

-- one rider place more is used
pub place_more : (value : ℕ → ℕ) (j : ℕ) → j < most_riders → set (seven_places value j) j (value j) ≡ seven_places value (j + 1)
unfolding seven_places
place_more value zero h = refl
place_more value (suc zero) h = refl
place_more value (suc (suc zero)) h = refl
place_more value (suc (suc (suc zero))) h = refl
place_more value (suc (suc (suc (suc zero)))) h = refl
place_more value (suc (suc (suc (suc (suc zero))))) h = refl
place_more value (suc (suc (suc (suc (suc (suc zero)))))) h = refl
place_more value (suc (suc (suc (suc (suc (suc (suc j))))))) h = absurd (omega arith)

-- the value of a sound request record is sound
pub value_sound : (n : ℕ) (s : List ℕ) → SoundRequest n s → SoundValue n (request_value s)
unfolding request_value
value_sound n s so =
    record {
      riders = so.riders;
      starts = so.starts;
      ends = so.ends;
      nodes = λ j h. rw (place_used (rider_node s) (rider_count s) j (omega arith) h) (so.nodes j h);
      bus = so.bus;
      weights = λ j h. rw (place_used (rider_weight s) (rider_count s) j (omega arith) h) (so.weights j h);
    }
