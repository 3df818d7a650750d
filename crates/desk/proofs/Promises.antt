-- Each entry's promise leaves one result, and its number says whether it is a value or a refusal, and which.
use Prim.Native.Nat.{ℕ, ◌-◌, ◌/◌, ◌%◌, ◌^◌, ◌≤◌, ◌<◌}
use native.Mathlib.Omega.{arith}
use mathlib.Core.Path.{◌≡◌, refl, sym, ◌∙◌, ap}
use mathlib.Core.List.{List, [], ◌∷◌}
use lib.ListN.{length}
use Rattle.rules.specs.Limits.{first_refusal, step_range}
use Rattle.rules.specs.Network.{network_of}
use Rattle.rules.specs.Request.{request_of, rider_count_of}
use Rattle.rules.specs.Rooms.{Lent}
use Rattle.rules.specs.Answers.{Outcome, gives, refuses, network_outcome, request_outcome}
use Rattle.rules.specs.Writing.{NetworkWritten, RequestWritten, value_of}
use Rattle.rules.proofs.RoundTrips.{network_size_told, request_size, list_value, list_written}
use Rattle.rules.proofs.AnswerLaws.{walked_unique, priced_route_unique, writing_unique, searched_unique}
use Rattle.records.proofs.RequestLaws.{few_riders}
use Rattle.price.proofs.Bounds.{pricing_bounded}
use Rattle.desk.specs.Numbers.{short_range, desk_number, RefusesSmall, WalkTold, PriceTold, WriteTold, NetworkWriteTold, RequestWriteTold}
use Rattle.desk.specs.Numbers.{PlanTold}
use Rattle.desk.proofs.Numbers.{network_refusal, network_sizes, request_refusal, walk_refusal, price_refusal}
use Rattle.desk.proofs.Numbers.{write_refusal, plan_refusal, plan_bounded}
use Rattle.desk.proofs.Places.{network_written_small, list_written_small}
use Rattle.rules.specs.Checks.{Verdict, Accepted}

-- ---- any two results agree
pub network_told_unique : (s : List ℕ) {x y : ℕ} → x ≡ desk_number short_range (network_outcome (network_of s))
    → y ≡ desk_number short_range (network_outcome (network_of s)) → x ≡ y
network_told_unique s p q = p ∙ sym q

pub request_told_unique : (network s : List ℕ) {x y : ℕ} → x ≡ desk_number short_range (request_outcome (request_of network s))
    → y ≡ desk_number short_range (request_outcome (request_of network s)) → x ≡ y
request_told_unique network s p q = p ∙ sym q

pub walk_told_unique : {network : List ℕ} {start : ℕ} {before a b : List ℕ} {x y : ℕ} → WalkTold network start before a x
    → WalkTold network start before b y → (a ≡ b) × (x ≡ y)
walk_told_unique s t =
    let (room, answer) = walked_unique s.walked t.walked in
    (room, s.tells ∙ ap (desk_number short_range) answer ∙ sym t.tells)

pub price_told_unique : {network request route before a b : List ℕ} {x y : ℕ} → PriceTold network request route before a x
    → PriceTold network request route before b y → (a ≡ b) × (x ≡ y)
price_told_unique s t =
    let (room, answer) = priced_route_unique s.priced t.priced in
    (room, s.tells ∙ ap (desk_number short_range) answer ∙ sym t.tells)

pub write_told_unique : {verdict : Verdict} {bytes before a b : List ℕ} {x y : ℕ} → WriteTold verdict bytes before a x
    → WriteTold verdict bytes before b y → (a ≡ b) × (x ≡ y)
write_told_unique s t =
    let (room, answer) = writing_unique s.written t.written in
    (room, s.tells ∙ ap (desk_number short_range) answer ∙ sym t.tells)

pub plan_told_unique : {network : List ℕ} (request : List ℕ) {before a b : Lent} {x y : ℕ} → PlanTold network request before a x
    → PlanTold network request before b y → (a ≡ b) × (x ≡ y)
plan_told_unique request s t =
    let (rooms, answer) = searched_unique request s.searched t.searched in
    (rooms, s.tells ∙ ap (desk_number step_range) answer ∙ sym t.tells)

-- ---- a value's number is below 2^63
pub network_value : (s : List ℕ) {number : ℕ} → number ≡ desk_number short_range (network_outcome (network_of s))
    → (network_of s).verdict ≡ Accepted
    → (number / short_range ≡ (network_of s).n) × (number % short_range ≡ (network_of s).m) × (number < first_refusal)
network_value s so told =
    let same = rw told at so in
    let small = network_sizes s refl told in
    (omega (arith, same, small), omega (arith, same, small), omega (arith, same, small))

pub request_value_told : (network s : List ℕ) {number : ℕ} → number ≡ desk_number short_range (request_outcome (request_of network s))
    → (request_of network s).verdict ≡ Accepted → (number ≡ rider_count_of (request_of network s).request) × (number < first_refusal)
request_value_told network s so told =
    let same = rw told at so in
    (same, omega (arith, same, few_riders network s))

pub walk_value : {network : List ℕ} {start : ℕ} {before after : List ℕ} {number : ℕ} (so : WalkTold network start before after number)
    → so.answer ≡ gives (0 ∷ []) → number ≡ 0
walk_value so told = so.tells ∙ ap (desk_number short_range) told

pub price_value : {network request route before after : List ℕ} {number price : ℕ} (so : PriceTold network request route before after number)
    → so.answer ≡ gives (price ∷ []) → (number ≡ price) × (number < first_refusal)
price_value {network} {request} {route} so told =
    let same = so.tells ∙ ap (desk_number short_range) told in
    (same, omega (arith, same, pricing_bounded network request route _ so.priced.pricing told))

module _ (n : ℕ) (numbers : List ℕ) {before after : List ℕ} {number size : ℕ} where
  pub network_write_value :
      (so : NetworkWriteTold n numbers before after number)
      → so.answer ≡ gives (size ∷ []) → (number ≡ size) × (number < first_refusal)
  network_write_value so told =
      let same = so.tells ∙ ap (desk_number short_range) told in
      let written : NetworkWritten n numbers before after (gives (size ∷ [])) = rw told at so.written in
      (same, omega (arith, same, network_size_told n numbers written))

  pub request_write_value :
      (so : RequestWriteTold n numbers before after number)
      → so.answer ≡ gives (size ∷ []) → (number ≡ size) × (number < first_refusal)
  request_write_value so told =
      let same = so.tells ∙ ap (desk_number short_range) told in
      let whole = list_written n numbers so.written told in
      let written : RequestWritten n (value_of numbers) before after (gives (size ∷ [])) = rw told at (list_value n numbers so.written whole) in
      (same, omega (arith, same, request_size n (value_of numbers) written))

pub plan_value_told : {network : List ℕ} (request : List ℕ) {before after : Lent} {number cost count : ℕ}
    (so : PlanTold network request before after number)
    → so.answer ≡ gives (cost ∷ count ∷ []) → (number / step_range ≡ cost) × (number % step_range ≡ count) × (number < first_refusal)
plan_value_told request so told =
    let same = so.tells ∙ ap (desk_number step_range) told in
    let small = plan_bounded request so.searched told in
    (omega (arith, same, small), omega (arith, same, small), omega (arith, same, small))

-- ---- a refusal's number is not, and tells its place and number
pub record TellsRefusal (told number place : ℕ) : Type 0 where
  pub high : first_refusal ≤ told
  pub fits : told < 2 ^ 64
  pub where_it_is : (told - first_refusal) / short_range ≡ place
  pub which : told % short_range ≡ number

reads : (range : ℕ) {answer : Outcome} {told number place : ℕ} → RefusesSmall answer → told ≡ desk_number range answer
    → answer ≡ refuses number place → TellsRefusal told number place
reads range {number = number} {place} answer tells refused =
    let small = answer.small number place refused in
    let same = tells ∙ ap (desk_number range) refused in
    record {
      high = omega (arith, same);
      fits = omega (arith, same, small);
      where_it_is = omega (arith, same, small);
      which = omega (arith, same, small);
    }

pub network_refused : (s : List ℕ) {told number place : ℕ} → told ≡ desk_number short_range (network_outcome (network_of s))
    → network_outcome (network_of s) ≡ refuses number place → TellsRefusal told number place
network_refused s so refused = reads short_range (network_refusal s refl) so refused

pub request_refused : (network s : List ℕ) {told number place : ℕ}
    → told ≡ desk_number short_range (request_outcome (request_of network s))
    → request_outcome (request_of network s) ≡ refuses number place → TellsRefusal told number place
request_refused network s so refused = reads short_range (request_refusal network s refl) so refused

pub walk_refused : {network : List ℕ} {start : ℕ} {before after : List ℕ} {told number place : ℕ} (so : WalkTold network start before after told)
    → so.answer ≡ refuses number place → TellsRefusal told number place
walk_refused so refused = reads short_range (walk_refusal so.walked) so.tells refused

pub price_refused : {network request route before after : List ℕ} {told number place : ℕ} (so : PriceTold network request route before after told)
    → so.answer ≡ refuses number place → TellsRefusal told number place
price_refused so refused = reads short_range (price_refusal so.priced) so.tells refused

module _ {before after : List ℕ} {told number place : ℕ} where
  pub network_write_refused : (n : ℕ) (numbers : List ℕ)
      (so : NetworkWriteTold n numbers before after told)
      → so.answer ≡ refuses number place → TellsRefusal told number place
  network_write_refused n numbers so refused =
      reads short_range (write_refusal (network_written_small n numbers (length before)) so.written) so.tells refused

  pub request_write_refused : (n : ℕ) (numbers : List ℕ)
      (so : RequestWriteTold n numbers before after told)
      → so.answer ≡ refuses number place → TellsRefusal told number place
  request_write_refused n numbers so refused =
      reads short_range (write_refusal (list_written_small n numbers (length before)) so.written) so.tells refused

pub plan_refused : {network : List ℕ} (request : List ℕ) {before after : Lent} {told number place : ℕ}
    (so : PlanTold network request before after told)
    → so.answer ≡ refuses number place → TellsRefusal told number place
plan_refused request so refused = reads step_range (plan_refusal request so.searched) so.tells refused
