-- A number's digits, from the last one on.
use Prim.Native.Nat.{ℕ, zero, suc, ◌+◌, ◌/◌, ◌%◌, ◌^◌, ◌≤◌, ◌<◌}
use native.Mathlib.Omega.{arith}
use native.Mathlib.Decide.{dec_lt}
use native.Mathlib.Nat.{pow-succ'}
use mathlib.Core.Path.{◌≡◌, sym, ◌∙◌, ap}
use mathlib.Core.Bool.{cond}
use mathlib.Core.List.{List, [], ◌∷◌, ◌++◌, append_assoc}
use lib.ListN.{length, length-append}
use lib.Dec.{ltb}
use borrow.Author.Tests.{lt-ltb, le-ltb}
use Rattle.rules.specs.Program.{digits, decimal}

-- a number that fits in fewer places has the same digits there
digits_more : (places x : ℕ) → x < 10 ^ (suc places) → digits (suc places) x ≡ digits places x
unfolding digits
digits_more zero x small =
    let low : x < 10 = small in
    simp (lt-ltb x 10 low, low_mod)
  where
    low_mod : x % 10 ≡ x
    low_mod = omega (arith, small)
digits_more (suc places) x small =
    ap (λ (front : List ℕ). cond (ltb x 10) ((48 + x) ∷ []) (front ++ (48 + x % 10) ∷ [])) (digits_more places (x / 10) tenth)
  where
    tenth : x / 10 < 10 ^ suc places
    tenth = omega (arith, small, pow-succ' 10 (suc places))

pub decimal_small : (x : ℕ) → x < 10 → decimal x ≡ (48 + x % 10) ∷ []
unfolding digits
decimal_small x small =
    let low : x % 10 ≡ x = omega arith in
    simp (lt-ltb x 10 small, low)

pub decimal_tenth : (x : ℕ) → x < 2 ^ 64 → 10 ≤ x → decimal x ≡ decimal (x / 10) ++ (48 + x % 10) ∷ []
unfolding digits
decimal_tenth x fits large =
    step ∙ ap (λ (front : List ℕ). front ++ (48 + x % 10) ∷ []) (sym (digits_more 18 (x / 10) (omega (arith, fits))))
  where
    step : digits 19 x ≡ digits 18 (x / 10) ++ (48 + x % 10) ∷ []
    step = simp (le-ltb x 10 large)

-- at least one digit, and no more than there are places
digits_length : (places x : ℕ) → (1 ≤ length (digits places x)) × (length (digits places x) ≤ suc places)
unfolding digits
digits_length zero x = (omega arith, omega arith)
digits_length (suc places) x =
    let (some, few) = digits_length places (x / 10) in
    elim (dec_lt x 10) [
      | yes low ↦ simp (lt-ltb x 10 low) (omega arith, omega arith)
      | no high ↦ simp (le-ltb x 10 (omega arith), length-append) (omega arith, omega arith)
    ]

pub decimal_length : (x : ℕ) → (1 ≤ length (decimal x)) × (length (decimal x) ≤ 20)
decimal_length x = digits_length 19 x

-- what a proof about digits asks for
pub ruleset decimals = (append_assoc, length-append, decimal_small, decimal_tenth, decimal_length)
