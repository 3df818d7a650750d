-- A request settles its right plan, and a set of riders at a node the number that the table holds of the best finish.
use Prim.Native.Nat.{ℕ, ◌^◌, ◌<◌, ◌≤◌}
use mathlib.Core.Path.{◌≡◌, refl, sym, ap₂}
use mathlib.Core.Logic.{inl, inr}
use mathlib.Core.List.{List, [], ◌∷◌}
use native.Mathlib.Omega.{arith}
use lib.ListN.{length}
use lib.Pow.{pow_mono, pow_pos}
use Rattle.rules.specs.Limits.{most_riders}
use Rattle.rules.specs.Request.{rider_count_of}
use Rattle.rules.specs.Plans.{all_riders, NoLater, Best, RightPlan}
use Rattle.rules.specs.Rooms.{HoldsFinish}
use Rattle.rules.specs.declared.Request.{Request}

-- The set of all riders is one of their sets,
pub all_riders_below : (q : Request) → all_riders q < 2 ^ rider_count_of q
all_riders_below q = omega (arith, pow_pos (rider_count_of q))

-- and a set of few riders is one of the sets of as many as there may be.
pub few_sets : {l R : ℕ} → l ≤ most_riders → R < 2 ^ l → R < 2 ^ most_riders
few_sets {l} h small = omega (arith, pow_mono {i = l} {j = most_riders} h)

-- Two lists, neither of which comes after the other in the dictionary, are the same.
pub no_later_antisymm : (xs ys : List ℕ) → NoLater xs ys → NoLater ys xs → xs ≡ ys
unfolding NoLater
no_later_antisymm [] [] a b = refl
no_later_antisymm [] (y ∷ ys) a b = absurd b
no_later_antisymm (x ∷ xs) [] a b = absurd a
no_later_antisymm (x ∷ xs) (y ∷ ys) (inl a) (inl b) = absurd (omega arith)
no_later_antisymm (x ∷ xs) (y ∷ ys) (inl a) (inr b) = absurd (omega arith)
no_later_antisymm (x ∷ xs) (y ∷ ys) (inr a) (inl b) = absurd (omega arith)
no_later_antisymm (x ∷ xs) (y ∷ ys) (inr a) (inr b) = ap₂ ◌∷◌ a.0 (no_later_antisymm xs ys a.1 b.1)

-- Two best finishes cost the same and have as many steps.
pub best_unique : {network : List ℕ} {q : Request} {R v c d : ℕ} {steps others : List ℕ} → Best network q R v steps c
    → Best network q R v others d → (c ≡ d) × (length steps ≡ length others)
best_unique {c} {d} {steps} {others} a b =
    let same : c ≡ d = omega (arith, a.cheapest others d b.finishes, b.cheapest steps c a.finishes) in
    (same, omega (arith, a.fewest others (rw (← same) at b).finishes, b.fewest steps (rw same at a).finishes))

-- There is at most one right plan, and it has one cost.
pub right_plan_unique : {network : List ℕ} {q : Request} {steps others : List ℕ} {c d : ℕ} → RightPlan network q steps c
    → RightPlan network q others d → (steps ≡ others) × (c ≡ d)
right_plan_unique {steps} {others} {c} {d} a b =
    let (cost, size) = best_unique a.best b.best in
    let ahead : NoLater steps others = a.first others (rw (← cost) at b).best.finishes (sym size) in
    let behind : NoLater others steps = b.first steps (rw cost at a).best.finishes size in
    (no_later_antisymm steps others ahead behind, cost)

-- A place that holds a best finish, or the mark of none, has one value.
pub holds_finish_unique : {network : List ℕ} {q : Request} {R v x y : ℕ} → HoldsFinish network q R v x → HoldsFinish network q R v y → x ≡ y
holds_finish_unique (inl a) (inl b) = let same = best_unique a.best b.best in cc
holds_finish_unique (inl a) (inr b) = absurd (b.0 _ _ a.best.finishes)
holds_finish_unique (inr a) (inl b) = absurd (a.0 _ _ b.best.finishes)
holds_finish_unique (inr a) (inr b) = cc
