-- How large a price is: that of the longest route, driven and walked to at the highest weights.
use Prim.Native.Nat.{ℕ, zero, suc, ◌+◌, ◌-◌, ◌*◌, ◌≤◌, ◌<◌}
use native.Mathlib.Omega.{arith}
use native.Mathlib.Nat.{mul-le-mul}
use mathlib.Core.Path.{◌≡◌}
use mathlib.Core.List.{List, [], ◌∷◌}
use lib.ListN.{length}
use Rattle.rules.specs.Limits.{most_weight, most_riders, closed, longest_route}
use Rattle.rules.specs.Request.{rider_weight_of, record_checks, request_verdict}
use Rattle.rules.specs.Walks.{Way, arrived, along}
use Rattle.rules.specs.Routes.{Drivable, sum}
use Rattle.rules.specs.Answers.{Outcome, gives}
use Rattle.rules.specs.Checks.{Check}
use Rattle.rules.specs.declared.Request.{Request}
use Rattle.rules.proofs.Order.{accepted_head, accepted_front, accepted_rest}
use Rattle.rules.proofs.SoundRequestLaws.{records_sound, value_sound}
use Rattle.rules.proofs.WalkLaws.{way_sum}
use Rattle.least.specs.WalkTrips.{longest_walk}
use Rattle.finish.proofs.Bounds.{rider_bounded}
use Rattle.price.specs.Sound.{SoundRoute, driving_of}
use Rattle.price.proofs.RouteLaws.{route_sound}
use Rattle.price.proofs.NearLaws.{position_below}
use Rattle.price.proofs.MeetLaws.{MetBelow}
use Rattle.price.proofs.EntryLaws.{PricedBehind, priced_told}

driving_bounded : {network : List ℕ} {u v c : ℕ} {route : List ℕ} → Way (Drivable network) u v route c → c ≤ length route * (closed - 1)
driving_bounded (arrived here free) = omega arith
driving_bounded (along x w rest leads way e) = omega (arith, leads.opened, driving_bounded way)

sum_bounded : (most count : ℕ) (f : ℕ → ℕ) → ((j : ℕ) → j < count → f j ≤ most) → sum count f ≤ count * most
unfolding sum
sum_bounded most zero f small = omega arith
sum_bounded most (suc count) f small =
    omega (arith, small count (omega arith), sum_bounded most count f (λ j h. small j (omega arith)))

abbrev pub most_price : ℕ
most_price = most_weight * (longest_route * (closed - 1)) + most_riders * (most_weight * longest_walk)

pub met_bounded : {network : List ℕ} {q : Request} {route : List ℕ} {j price : ℕ} {meetings : List ℕ} → SoundRoute network q route
    → MetBelow network q route j price meetings → price ≤ most_price
met_bounded {network} {q} {route} {j} may so =
    let far : driving_of network route ≤ longest_route * (closed - 1) = omega (arith, may.few, driving_bounded may.drives) in
    let drives = mul-le-mul may.value.bus.1 far in
    let walks = sum_bounded (most_weight * longest_walk) j (λ i. rider_weight_of q i * so.walking i)
    (λ i h. mul-le-mul (may.value.weights i (omega (arith, so.within))).1
    (rider_bounded may.sound (position_below may _) (so.meets i h).walks)) in
    omega (arith, so.adds, so.within, may.value.riders, drives, walks)

pub pricing_bounded : (network request route : List ℕ) (c : Check) {meetings : List ℕ} {answer : Outcome} {price : ℕ}
    → PricedBehind network request route c answer meetings
    → answer ≡ gives (price ∷ [])
    → price ≤ most_price
unfolding request_verdict
pricing_bounded network request route c {meetings} pricing told =
    let (accepted, costs, count) = priced_told (rw told at pricing) in
    let (sound, request_sound) = records_sound network request (accepted_front (record_checks network request) _ accepted) in
    let passes = (accepted_head c _ (accepted_rest (record_checks network request) _ accepted)).1 in
    let may = route_sound network _ route sound (value_sound _ request request_sound) passes in
    let driven = way_sum costs.drives may.drives in
    met_bounded {meetings = meetings} may
    (record { within = omega arith; walking = costs.walking; meets = costs.meets; adds = rw driven at costs.adds })
