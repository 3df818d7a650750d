-- What is answered before a route's own refusals, by pricing and by the tablet: the records' refusals, and one check more (31, or the
-- tablet's 38).
use Prim.Native.Nat.{ℕ}
use mathlib.Core.Path.{◌≡◌, refl, sym, ◌∙◌}
use mathlib.Core.Bool.{false}
use mathlib.Core.List.{List, [], ◌∷◌, ◌++◌}
use lib.ListN.{length}
use Rattle.rules.specs.Checks.{Check, first_of, Verdict, Accepted}
use Rattle.rules.specs.Network.{node_count, network_checks, network_verdict}
use Rattle.rules.specs.Request.{record_checks, request_checks, request_value, rider_count_of}
use Rattle.rules.specs.Routes.{Price, route_checks}
use Rattle.rules.specs.Answers.{Outcome, gives, Pricing, refused, stranded, priced, price_checks, PricedRoute, refusal_outcome}
use Rattle.rules.specs.declared.refusal.Refusal.{Refusal}
use Rattle.rules.specs.declared.Request.{Request}
use Rattle.rules.proofs.Clash.{clash}
use Rattle.rules.proofs.Order.{passed, front_passed}
use Rattle.std.specs.Prelude.{Err}

-- How pricing ends behind the records' checks and the check c.
abbrev pub PricedBehind : List ℕ → List ℕ → List ℕ → Check → Outcome → List ℕ → Type 0
PricedBehind network request route c =
    Pricing (first_of (record_checks network request ++ c ∷ route_checks network (request_value request) route)) network (request_value request) route

-- Without meeting positions nothing is written.
pub unwritten : {network request route before : List ℕ} {answer : Outcome}
    → Pricing (first_of (price_checks network request route (length before))) network (request_value request) route answer []
    → PricedRoute network request route before before answer
unwritten pricing = record { meetings = []; pricing = pricing; written = refl }

pub unpriced : {network request route before : List ℕ} {r : Refusal} → first_of (price_checks network request route (length before)) ≡ Err r
    → PricedRoute network request route before before (refusal_outcome r)
unpriced {r = r} e = unwritten (refused r e refl refl)

-- Past the records' checks and the check c it ends as pricing the route does.
pub priced_behind : {network route meetings : List ℕ} {answer : Outcome} (request : List ℕ) (c : Check) {read : List ℕ} {q : Request}
    → read ≡ network → q ≡ request_value request
    → Accepted ≡ network_verdict network → Accepted ≡ first_of (request_checks (node_count read) request) → c.applies ≡ false
    → Pricing (first_of (route_checks read q route)) read q route answer meetings
    → PricedBehind network request route c answer meetings
unfolding network_verdict
priced_behind {network} {route} request c same value sound asked passes pricing =
    let records : first_of (record_checks network request) ≡ Accepted = front_passed (network_checks network) _ (sym sound) ∙ sym (rw same at asked) in
    rw (front_passed (record_checks network request) _ records ∙ passed c.fault c.place (route_checks network (request_value request) route) passes)
    (rw (same, value) at pricing)

-- A price comes once everything else is accepted, with a meeting position for each rider.
pub priced_told : {v : Verdict} {network : List ℕ} {q : Request} {route : List ℕ} {price : ℕ} {meetings : List ℕ}
    → Pricing v network q route (gives (price ∷ [])) meetings
    → (v ≡ Accepted) × Price network q route meetings price × (length meetings ≡ rider_count_of q)
priced_told (refused r is told none) = clash (cc)
priced_told (stranded j is h lost first told none) = clash (cc)
priced_told {price = price} (priced p is so size told) = let same : p ≡ price = cc in (is, rw same at so, size)
