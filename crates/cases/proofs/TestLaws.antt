-- A test passes exactly if what it says holds.
use Prim.Native.Nat.{ℕ, zero, suc, ◌<◌}
use mathlib.Core.Path.{◌≡◌, refl}
use mathlib.Core.Logic.{◌⊎◌, inl, inr, ⊎_elim, ◌↔◌}
use mathlib.Core.Bool.{Bool, true, false, not, ◌&&◌, ◌||◌, false≢true}
use native.Mathlib.Decide.{dec_lt}
use native.Mathlib.Omega.{arith}
use borrow.Author.Tests.{ltb-true, leb-true, eqb-true, lt-ltb, le-leb, eq-eqb}
use Rattle.cases.proofs.Tests.{Test, at_most, below, equal, both, either, implies, for_each, for_some, Says, all_below, any_below, passes}

pub and_both : (a b : Bool) → ((a && b) ≡ true) ↔ ((a ≡ true) × (b ≡ true))
and_both true b = (λ e. (refl, e), λ e. e.1)
and_both false b = (λ e. absurd (false≢true e), λ e. e.0)

or_either : (a b : Bool) → ((a || b) ≡ true) ↔ ((a ≡ true) ⊎ (b ≡ true))
or_either true b = (λ e. inl refl, λ e. refl)
or_either false b = (inr, ⊎_elim (λ e. absurd (false≢true e)) (λ e. e))

not_given : (a b : Bool) → ((not a || b) ≡ true) ↔ (a ≡ true → b ≡ true)
not_given true b = (λ e h. e, λ f. f refl)
not_given false b = (λ e h. absurd (false≢true h), λ f. refl)

all_each : (n : ℕ) (f : ℕ → Bool) → (all_below n f ≡ true) ↔ ((k : ℕ) → k < n → f k ≡ true)
unfolding all_below
all_each zero f = (λ e k h. absurd (omega arith), λ g. refl)
all_each (suc n) f = (
  λ e k h. let (here, rest) = (and_both (f n) (all_below n f)).0 e in elim (dec_lt k n) [
    | yes l ↦ (all_each n f).0 rest k l
    | no l ↦ (let top : k ≡ n = omega arith in rw top here)
  ],
  λ g. (and_both (f n) (all_below n f)).1 (g n (omega arith), (all_each n f).1 (λ k h. g k (omega arith))),
)

any_some : (n : ℕ) (f : ℕ → Bool) → (any_below n f ≡ true) ↔ ((k : ℕ) × (k < n) × (f k ≡ true))
unfolding any_below
any_some zero f = (λ e. absurd (false≢true e), λ (k, h, e). absurd (omega arith))
any_some (suc n) f = (
  λ e.
      ⊎_elim (λ here. (n, omega arith, here)) (λ rest. let (k, h, there) = (any_some n f).0 rest in (k, omega arith, there))
      ((or_either (f n) (any_below n f)).0 e),
  λ (k, h, e). (or_either (f n) (any_below n f)).1 (elim (dec_lt k n) [
    | yes l ↦ inr ((any_some n f).1 (k, l, e))
    | no l ↦ (let top : k ≡ n = omega arith in inl (rw top at e))
  ]),
)

pub decides : (t : Test) → (passes t ≡ true) ↔ Says t
unfolding passes
decides (at_most a b) = (leb-true a b, le-leb a b)
decides (below a b) = (ltb-true a b, lt-ltb a b)
decides (equal a b) = (eqb-true a b, eq-eqb a b)
decides (both s t) = (
  λ e. let (a, b) = (and_both (passes s) (passes t)).0 e in ((decides s).0 a, (decides t).0 b),
  λ (a, b). (and_both (passes s) (passes t)).1 ((decides s).1 a, (decides t).1 b),
)
decides (either s t) = (
  λ e. ⊎_elim (λ a. inl ((decides s).0 a)) (λ b. inr ((decides t).0 b)) ((or_either (passes s) (passes t)).0 e),
  λ e. (or_either (passes s) (passes t)).1 (⊎_elim (λ a. inl ((decides s).1 a)) (λ b. inr ((decides t).1 b)) e),
)
decides (implies s t) = (
  λ e a. (decides t).0 ((not_given (passes s) (passes t)).0 e ((decides s).1 a)),
  λ f. (not_given (passes s) (passes t)).1 (λ a. (decides t).1 (f ((decides s).0 a))),
)
decides (for_each n f) = (
  λ e k h. (decides (f k)).0 ((all_each n (λ i. passes (f i))).0 e k h),
  λ g. (all_each n (λ i. passes (f i))).1 (λ k h. (decides (f k)).1 (g k h)),
)
decides (for_some n f) = (
  λ e. let (k, h, here) = (any_some n (λ i. passes (f i))).0 e in (k, h, (decides (f k)).0 here),
  λ (k, h, here). (any_some n (λ i. passes (f i))).1 (k, h, (decides (f k)).1 here),
)
