-- Counting nodes by taking them out one at a time.
use Prim.Native.Nat.{ℕ, zero, suc, min, ◌+◌, ◌-◌, ◌<◌}
use mathlib.Core.Path.{◌≡◌}
use mathlib.Core.Logic.{◌≢◌}
use native.Mathlib.Omega.{arith}

-- the nodes of P other than x
abbrev pub Without : (ℕ → Type 0) → ℕ → ℕ → Type 0
Without P x y = P y × (y ≢ x)

-- P has at most k nodes: without any of them it has at most one less.
unfoldable pub Few : ℕ → (ℕ → Type 0) → Type 0
Few zero P = (x : ℕ) → P x → ⊥
Few (suc k) P = (x : ℕ) → P x → Few k (Without P x)

-- What goes into few nodes and comes back from there is few.
few_map : (k : ℕ) {P : ℕ → Type 0} (Q : ℕ → Type 0) (to back : ℕ → ℕ) → ((x : ℕ) → P x → Q (to x))
    → ((x : ℕ) → P x → back (to x) ≡ x) → Few k Q → Few k P
unfolding Few
few_map zero Q to back into same few = λ x p. few (to x) (into x p)
few_map (suc k) Q to back into same few = λ x p.
    few_map k (Without Q (to x)) to back (λ y q. (into y q.0, λ e. q.1 (cc (same x p, same y q.0)))) (λ y q. same y q.0)
    (few (to x) (into x p))

-- Without x, the numbers above x move down by one.
pub few_below : (n : ℕ) → Few n (λ x. x < n)
unfolding Few
few_below zero = λ x p. omega arith
few_below (suc n) =
    λ x p. few_map n (λ y. y < n) (λ y. y - min 1 (y - x)) (λ y. y + min 1 (suc y - x)) (λ y q. omega arith) (λ y q. omega arith) (few_below n)
