-- What each answer's number is made of is small enough for 64 bits, and a value's number is below 2^63.
use Prim.Native.Nat.{ℕ, ◌≤◌, ◌<◌}
use native.Mathlib.Omega.{arith}
use mathlib.Core.Path.{◌≡◌, refl}
use mathlib.Core.List.{List, [], ◌∷◌}
use lib.ListN.{length}
use Rattle.rules.specs.Checks.{Check, first_of, Verdict, Accepted}
use Rattle.rules.specs.Limits.{most_nodes, most_links, step_range}
use Rattle.rules.specs.Network.{node_count, network_verdict, network_of, SoundNetwork}
use Rattle.rules.specs.Request.{record_checks, request_verdict, request_of, request_value, SoundValue}
use Rattle.rules.specs.Rooms.{Lent}
use Rattle.rules.specs.Answers.{Outcome, gives, refuses, outcome_of, network_outcome, request_outcome, walk_checks, Walked, refused, stranded}
use Rattle.rules.specs.Answers.{priced, PricedRoute, hopeless, planned, Searched}
use Rattle.rules.specs.declared.refusal.Refusal.{Refusal}
use Rattle.rules.specs.declared.NetworkRead.{NetworkRead}
use Rattle.rules.specs.declared.RequestRead.{RequestRead}
use Rattle.rules.proofs.Clash.{clash}
use Rattle.rules.proofs.Order.{accepted_front}
use Rattle.rules.specs.Writing.{Writing}
use Rattle.rules.proofs.Refusals.{Gives, Small, network_small, records_small, search_small}
use Rattle.rules.proofs.SoundNetworkLaws.{network_sound}
use Rattle.rules.proofs.SoundRequestLaws.{records_sound, value_sound}
use Rattle.finish.specs.Short.{most_cost}
use Rattle.finish.proofs.Bounds.{right_plan_bounded}
use Rattle.desk.specs.Numbers.{short_range, RefusesSmall}
use Rattle.desk.proofs.Places.{walk_small, price_small}
use Rattle.std.specs.Prelude.{Ok, Err}

gives_small : (values : List ℕ) → RefusesSmall (gives values)
gives_small values = record { small = λ number place e. clash (cc) }

refuses_small : {n p : ℕ} → n < short_range → p < short_range → RefusesSmall (refuses n p)
refuses_small {n} {p} h g =
    record {
      small = λ number place e.
          let a : n ≡ number = cc in
          let b : p ≡ place = cc in
          (omega arith, omega arith);
    }

verdict_small : (verdict : Verdict) (values : List ℕ) → ((r : Refusal) → verdict ≡ Err r → Small short_range r)
    → RefusesSmall (outcome_of verdict values)
verdict_small (Ok _) values small = gives_small values
verdict_small (Err r) values small = refuses_small (small r refl).number (small r refl).place

-- ---- reading
module _ (s : List ℕ) {read : NetworkRead} (is : read ≡ network_of s) where
  pub network_refusal : RefusesSmall (network_outcome read)
  unfolding network_of network_verdict
  network_refusal = verdict_small read.verdict _ (λ r told. (network_small short_range (omega arith) s).given r (rw is at told))

  pub network_sizes : read.verdict ≡ Accepted → (read.n ≤ most_nodes) × (read.m ≤ most_links)
  unfolding network_of
  network_sizes told =
      let accepted : network_verdict s ≡ Accepted = rw is at told in
      let sound = network_sound s accepted in
      rw (is, accepted) (sound.nodes, sound.links)

pub request_refusal : (network s : List ℕ) {read : RequestRead} → read ≡ request_of network s → RefusesSmall (request_outcome read)
unfolding request_of request_verdict
request_refusal network s {read} is =
    verdict_small read.verdict _ (λ r told. (records_small short_range (omega arith) network s).given r (rw is at told))

-- ---- walking
pub walk_refusal : {network : List ℕ} {start : ℕ} {before after : List ℕ} {answer : Outcome}
    → Walked network start before after answer → RefusesSmall answer
walk_refusal {network} {start} {before} walked =
    rw walked.answers
    (verdict_small (first_of (walk_checks network start (length before))) _ (walk_small network start (length before)).given)

-- ---- writing
pub write_refusal : {checks : List Check} {bytes before after : List ℕ} {answer : Outcome} → Gives (Small short_range) checks
    → Writing (first_of checks) bytes before after answer → RefusesSmall answer
write_refusal {checks} small written = rw written.answers (verdict_small (first_of checks) _ small.given)

-- ---- both records, once the checks of an entry are all passed
both_sound : (network request : List ℕ) → request_verdict network request ≡ Accepted
    → SoundNetwork network × SoundValue (node_count network) (request_value request)
both_sound network request e = let (a, b) = records_sound network request e in (a, value_sound _ request b)

-- ---- pricing
pub price_refusal : {network request route before after : List ℕ} {answer : Outcome}
    → PricedRoute network request route before after answer → RefusesSmall answer
unfolding request_verdict
price_refusal {network} {request} {route} {before} so = elim so.pricing [
  | refused x v e m ↦ (
      let small = (price_small network request route (length before)).given x v in
      rw e (refuses_small small.number small.place)
      )
  | stranded j v h s l e m ↦ (
      let riders = (both_sound network request (accepted_front (record_checks network request) _ v)).1.riders in
      rw e (refuses_small (omega arith) (omega arith))
      )
  | priced p v c z e ↦ rw e (gives_small (p ∷ []))
]

-- ---- the search
module _ {network : List ℕ} (request : List ℕ) {before after : Lent} {answer : Outcome} (so : Searched network request before after answer) where
  pub plan_refusal : RefusesSmall answer
  plan_refusal = elim so [
    | refused x v e m ↦ (
        let small = (search_small short_range (omega arith) network request before).given x v in
        rw e (refuses_small small.number small.place)
        )
    | hopeless v d t n e s ↦ rw e (refuses_small (omega arith) (omega arith))
    | planned plan cost v d t right e w ↦ rw e (gives_small (cost ∷ length plan ∷ []))
  ]

  pub plan_bounded : {cost count : ℕ} → answer ≡ gives (cost ∷ count ∷ []) → (cost ≤ most_cost) × (count < step_range)
  unfolding request_verdict
  plan_bounded {cost} {count} told = elim so [
    | refused x v e m ↦ clash (cc)
    | hopeless v d t n e w ↦ clash (cc)
    | planned plan p v d t right e w ↦ (
        let (sound, value) = both_sound network request (accepted_front (record_checks network request) _ v) in
        let b = right_plan_bounded sound value right in
        let c : p ≡ cost = cc in
        let s : length plan ≡ count = cc in
        (omega arith, omega arith)
        )
  ]
