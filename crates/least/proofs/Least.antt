-- Laws of `Least`.
use Prim.Native.Nat.{ℕ, min, ◌≤◌, ◌<◌}
use mathlib.Core.Path.{◌≡◌}
use mathlib.Core.Logic.{◌⊎◌, inl, inr, ⊎_elim, ◌↔◌}
use native.Mathlib.Nat.{le_trans, le_refl}
use native.Mathlib.Decide.{dec_lt}
use native.Mathlib.Omega.{arith, min_cases}
use Rattle.least.specs.Least.{Least}

-- The cap is the least of nothing.
pub least_none : {cap : ℕ} {P : ℕ → Type 0} → ((x : ℕ) → P x → ⊥) → Least cap P cap
least_none {cap} none = record { capped = le_refl cap; lowest = λ x p. absurd (none x p); met = λ h. absurd (omega arith) }

-- The wider the choice, the smaller its least.
pub wider : {cap : ℕ} {P Q : ℕ → Type 0} {s t : ℕ} → ((d : ℕ) → Q d → P d) → Least cap P s → Least cap Q t → s ≤ t
wider {cap} {P} {Q} {s} {t} into a b = elim (dec_lt t cap) [ yes h ↦ a.lowest t (into t (b.met h)) | no h ↦ omega arith ]

-- Each of two least numbers is at most the other.
pub unique : {cap : ℕ} {P : ℕ → Type 0} {s t : ℕ} → Least cap P s → Least cap P t → s ≡ t
unique a b = omega (arith, wider (λ d p. p) a b, wider (λ d p. p) b a)

-- The least of P is the least of Q if P undercuts Q and what P has below the cap, Q has.
pub carry : {cap : ℕ} {P Q : ℕ → Type 0} {t : ℕ} → ((d : ℕ) → Q d → (e : ℕ) × P e × (e ≤ d)) → ((d : ℕ) → d < cap → P d → Q d)
    → Least cap P t → Least cap Q t
carry {cap} {P} {Q} {t} under into l =
    record {
      capped = l.capped;
      lowest = λ d q. le_trans (l.lowest _ (under d q).1) (under d q).2;
      met = λ h. into t h (l.met h);
    }

pub least_iff : {cap : ℕ} {P Q : ℕ → Type 0} {t : ℕ} → ((d : ℕ) → P d ↔ Q d) → Least cap P t → Least cap Q t
least_iff iff = carry (λ d q. (d, (iff d).1 q, le_refl d)) (λ d h. (iff d).0)

pub least_min : {cap : ℕ} {P Q : ℕ → Type 0} {s t : ℕ} → Least cap P s → Least cap Q t → Least cap (λ d. P d ⊎ Q d) (min s t)
least_min {cap} {P} {Q} {s} {t} a b =
    record {
      capped = omega arith;
      lowest = λ d. ⊎_elim (λ p. omega (arith, a.lowest d p)) (λ q. omega (arith, b.lowest d q));
      met = λ h. min_cases s t _ (λ l e. rw e (inl (a.met (omega arith)))) (λ l e. rw e (inr (b.met (omega arith))));
    }
