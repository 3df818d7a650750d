-- What the tests of the checks tell, and what makes them tell it.
use Prim.Native.Nat.{ℕ, ◌≤◌}
use mathlib.Core.Path.{◌≡◌, refl}
use mathlib.Core.Bool.{Bool, true, false, true≢false, ◌||◌}
use lib.Dec.{ltb, eqb}
use borrow.Author.Tests.{ltb-false, le-ltb, eqb-true, not-false}
use Rattle.rules.specs.Checks.{differ, outside}

pub neither : (a b : Bool) → (a || b) ≡ false → (a ≡ false) × (b ≡ false)
neither true b e = absurd (true≢false e)
neither false b e = (refl, e)

pub same : (x y : ℕ) → differ x y ≡ false → x ≡ y
same x y e = eqb-true x y (not-false (eqb x y) e)

pub within : (low high x : ℕ) → outside low high x ≡ false → (low ≤ x) × (x ≤ high)
within low high x e =
    let (above, below) = neither (ltb x low) (ltb high x) e in
    (ltb-false x low above, ltb-false high x below)

pub not_outside : (low high x : ℕ) → low ≤ x → x ≤ high → outside low high x ≡ false
not_outside low high x above below = simp (le-ltb x low above, le-ltb high x below)
