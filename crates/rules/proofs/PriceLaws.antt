-- A route settles each rider's meeting, and so its price.
use Prim.Native.Nat.{ℕ, zero, suc, ◌+◌, ◌*◌, ◌<◌}
use mathlib.Core.Path.{◌≡◌, refl, ap, ap₂}
use mathlib.Core.List.{List}
use native.Mathlib.Omega.{arith}
use lib.ListN.{length}
use lib.Seq.{ext_get_or}
use Rattle.rules.specs.Request.{rider_weight_of, rider_count_of}
use Rattle.rules.specs.Routes.{Meeting, Price, sum}
use Rattle.rules.specs.declared.Request.{Request}
use Rattle.rules.proofs.WalkLaws.{way_sum}

-- A rider has one meeting position on a route, and one distance to it.
pub meeting_unique : {network : List ℕ} {q : Request} {route : List ℕ} {j p r d e : ℕ} → Meeting network q route j p d
    → Meeting network q route j r e → (p ≡ r) × (d ≡ e)
meeting_unique {p} {r} {d} {e} a b =
    let same : d ≡ e = omega (arith, a.least r e b.within b.walks, b.least p d a.within a.walks) in
    let early : ¬ (p < r) = λ h. b.earliest p h (rw same at a).walks in
    let late : ¬ (r < p) = λ h. a.earliest r h (rw (← same) at b).walks in
    (omega arith, same)

-- Two sums of values that agree below the count are equal.
pub sum_same : (count : ℕ) (f g : ℕ → ℕ) → ((j : ℕ) → j < count → f j ≡ g j) → sum count f ≡ sum count g
unfolding sum
sum_same zero f g same = refl
sum_same (suc count) f g same = ap₂ ◌+◌ (sum_same count f g (λ j h. same j (omega arith))) (same count (omega arith))

-- A route has one price and one list of meeting positions.
pub price_unique : {network : List ℕ} {q : Request} {route meetings others : List ℕ} {c d : ℕ} → length meetings ≡ rider_count_of q
    → length others ≡ rider_count_of q → Price network q route meetings c → Price network q route others d
    → (c ≡ d) × (meetings ≡ others)
price_unique {q} m n a b =
    let same : (j : ℕ) → j < rider_count_of q → weighed a.walking j ≡ weighed b.walking j =
    λ j h. ap (λ (d : ℕ). rider_weight_of q j * d) (meeting_unique (a.meets j h) (b.meets j h)).1 in
    let walking = sum_same (rider_count_of q) (weighed a.walking) (weighed b.walking) same in
    (cc (way_sum a.drives b.drives), ext_get_or 0 _ _ (cc) (λ i h. (meeting_unique (a.meets i (rw m at h)) (b.meets i (rw m at h))).0))
  where
    weighed : (ℕ → ℕ) → ℕ → ℕ
    weighed walking j = rider_weight_of q j * walking j
