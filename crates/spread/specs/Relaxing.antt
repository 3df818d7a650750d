-- What a network engine that relaxes arcs has done so far.
use Rattle.std.specs.Prelude.{ℕ, ◌+◌, ◌<◌, ◌≤◌, ◌≡◌, Bool, true, false, List, [], ◌∷◌, get_or, set}
use Rattle.least.specs.Trips.{Arcs}

-- Places below n were lowered along arcs, one after the other, from `before` to `after`.
pub data Relaxing (n : ℕ) (Arc : Arcs) (before : List ℕ) : List ℕ → Type 0 where
  still : {after : List ℕ} → after ≡ before → Relaxing n Arc before after
  lowered :
      {after : List ℕ} (mid : List ℕ) (u v w : ℕ)
      → Relaxing n Arc before mid
      → u < n
      → Arc u v w
      → w + get_or mid v 0 < get_or mid u 0
      → after ≡ set mid u (w + get_or mid v 0)
      → Relaxing n Arc before after

-- Place u was lowered to w and place v, which is a change; or it was no higher, and nothing changed.
pub data Lowered (u v w : ℕ) (before after : List ℕ) (changed : Bool) : Type 0 where
  low : get_or before u 0 ≤ w + get_or before v 0 → after ≡ before → changed ≡ false → Lowered u v w before after changed
  lower :
      w + get_or before v 0 < get_or before u 0
      → after ≡ set before u (w + get_or before v 0)
      → changed ≡ true
      → Lowered u v w before after changed

-- No arc of link k makes a sum of t smaller.
abbrev pub RelaxedLink : (ℕ → Arcs) → ℕ → List ℕ → Type 0
RelaxedLink Link k t = (u v w : ℕ) → Link k u v w → get_or t u 0 ≤ w + get_or t v 0

-- No arc of the links below k does.
abbrev pub RelaxedBelow : (ℕ → Arcs) → ℕ → List ℕ → Type 0
RelaxedBelow Link k t = (i : ℕ) → i < k → RelaxedLink Link i t

unfoldable pub total : List ℕ → ℕ
total [] = 0
total (x ∷ xs) = x + total xs

-- Places were lowered from `before` to `after`, if any; if none was, then `Settled` holds of what stands there.
pub record Progress (n : ℕ) (Arc : Arcs) (Settled : List ℕ → Type 0) (before after : List ℕ) (changed : Bool) : Type 0 where
  pub relaxing : Relaxing n Arc before after
  pub quiet : changed ≡ false → (after ≡ before) × Settled after
  pub falls : changed ≡ true → total after < total before
