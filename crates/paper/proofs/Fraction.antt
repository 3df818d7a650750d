-- What multiplying a fraction keeps, and what it makes of an average.
use Prim.Native.Nat.{ℕ, ◌+◌, ◌*◌, ◌≤◌, ◌<◌}
use mathlib.Core.Path.{◌≡◌, ◌∙◌, ap}
use native.Mathlib.Nat.{add-mul, mul_assoc, mul_comm, mul_right_comm, mul-pos, add-sub_cancel_left, mul-le-mul_right, le_of_mul-le-mul_right}
use Rattle.paper.specs.Fraction.{Fraction, times, IsWhole, AtMost}
use Rattle.paper.specs.Problem.{average}

-- With α = a/(a+w), a+w times α × c + (1 - α) × d is a × c + w × d.
pub average_is : (a w : ℕ) (positive : 0 < a + w) (c d : ℕ)
    → IsWhole (times (average (record { top = a; bottom = a + w; positive = positive }) c d) (a + w)) (a * c + w * d)
average_is a w positive c d = rw (add-sub_cancel_left, ← add-mul (a * c), mul_assoc)

cross : (f g : Fraction) (n x : ℕ) → IsWhole (times f n) x → f.top * g.bottom * n ≡ x * (f.bottom * g.bottom)
cross f g n x is = mul_right_comm f.top g.bottom n ∙ ap (λ (z : ℕ). z * g.bottom) is ∙ mul_assoc x f.bottom g.bottom

-- Where f × n and g × n are whole, they are in the order of f and g.
module _ (f g : Fraction) (n x y : ℕ) (positive : 0 < n) (is : IsWhole (times f n) x) (also : IsWhole (times g n) y) where
  cross_back : g.top * f.bottom * n ≡ y * (f.bottom * g.bottom)
  cross_back = cross g f n y also ∙ ap (λ (z : ℕ). y * z) (mul_comm g.bottom f.bottom)

  pub le_at_most : x ≤ y → AtMost f g
  le_at_most h = le_of_mul-le-mul_right (rw (cross f g n x is, cross_back) (mul-le-mul_right (f.bottom * g.bottom) h)) positive

  pub at_most_le : AtMost f g → x ≤ y
  at_most_le h = le_of_mul-le-mul_right (rw (cross f g n x is, cross_back) at (mul-le-mul_right n h)) (mul-pos f.positive g.positive)
