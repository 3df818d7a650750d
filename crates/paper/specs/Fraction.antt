-- Fractions of whole numbers.
use Rattle.std.specs.Prelude.{ℕ, ◌+◌, ◌-◌, ◌*◌, ◌≤◌, ◌<◌, ◌≡◌}
use Rattle.std.proofs.Common.{mul-pos}

pub record Fraction : Type 0 where
  pub top : ℕ
  pub bottom : ℕ
  pub positive : 0 < bottom

-- x × n
abbrev pub times : Fraction → ℕ → Fraction
times x n = record { top = x.top * n; bottom = x.bottom; positive = x.positive }

-- x + y
abbrev pub plus : Fraction → Fraction → Fraction
plus x y =
    record {
      top = x.top * y.bottom + y.top * x.bottom;
      bottom = x.bottom * y.bottom;
      positive = mul-pos x.positive y.positive;
    }

-- 1 - x, of an x up to 1
abbrev pub one_minus : Fraction → Fraction
one_minus x = record { top = x.bottom - x.top; bottom = x.bottom; positive = x.positive }

-- x = n
abbrev pub IsWhole : Fraction → ℕ → Type 0
IsWhole x n = x.top ≡ n * x.bottom

-- x ≤ y
abbrev pub AtMost : Fraction → Fraction → Type 0
AtMost x y = x.top * y.bottom ≤ y.top * x.bottom
