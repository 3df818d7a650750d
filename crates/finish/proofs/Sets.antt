-- Laws of the sets of riders: whom a set has, what it loses with a rider, its count of ones and its lowest rider.
use Prim.Native.Nat.{ℕ, zero, suc, ◌+◌, ◌-◌, ◌/◌, ◌%◌, ◌^◌, ◌≤◌, ◌<◌}
use mathlib.Core.Path.{◌≡◌, refl, sym, ap, ◌∙◌}
use mathlib.Core.Logic.{◌≢◌, ◌↔◌}
use native.Mathlib.Nat.{pow-succ', div-div-eq-div-mul}
use native.Mathlib.Decide.{dec_lt}
use native.Mathlib.Omega.{arith}
use lib.Count.{ones, ones_in, ones_step, count_trailing_zeros, under}
use lib.Pow.{pow_mono, pow_pos}
use Rattle.rules.specs.Plans.{Has, without}
use Rattle.finish.specs.Sets.{Subset, LowestRider}

-- A rider's digit is the rider before's digit of the half.
halved : (R j : ℕ) → R / 2 ^ suc j ≡ R / 2 / 2 ^ j
halved R j = rw (pow-succ', ← div-div-eq-div-mul)

half_has : (R j : ℕ) → Has R (suc j) → Has (R / 2) j
half_has R j h = rw halved at h

has_half : (R j : ℕ) → Has (R / 2) j → Has R (suc j)
has_half R j h = rw halved h

pub has_le : (R j : ℕ) → Has R j → 2 ^ j ≤ R
has_le R zero h = omega arith
has_le R (suc j) h = omega (arith, has_le (R / 2) j (half_has R j h), pow-succ' 2 j)

pub none_has : (j : ℕ) → Has 0 j → ⊥
none_has j h = omega (arith, has_le 0 j h, pow_pos j)

pub has_below : (R j l : ℕ) → R < 2 ^ l → Has R j → j < l
has_below R j l small h = elim (dec_lt j l) [ yes g ↦ g | no g ↦ absurd (omega (arith, has_le R j h, pow_mono {i = l} {j = j} (omega arith))) ]

pub without_less : (R j : ℕ) → Has R j → without R j < R
without_less R j h = omega (arith, has_le R j h, pow_pos j)

-- Without a rider, the half loses the rider before.
half_without : (R j : ℕ) → Has R (suc j) → without R (suc j) / 2 ≡ without (R / 2) j
half_without R j h = omega (arith, has_le (R / 2) j (half_has R j h), pow-succ' 2 j)

half_without_first : (R : ℕ) → Has R 0 → without R 0 / 2 ≡ R / 2
half_without_first R h = omega arith

pub ones_without : (R j : ℕ) → Has R j → ones (without R j) + 1 ≡ ones R
ones_without R zero h = omega (arith, ones_step R, rw (half_without_first R h) at (ones_step (without R 0)))
ones_without R (suc j) h =
    omega (
      arith,
      has_le R (suc j) h,
      pow-succ' 2 j,
      ones_step R,
      rw (half_without R j h) at (ones_step (without R (suc j))),
      ones_without (R / 2) j (half_has R j h),
    )

-- The count of ones is 0 exactly when R is empty.
pub nobody : ones 0 ≡ 0
unfolding ones ones_in
nobody = refl

pub somebody : (R : ℕ) → ones R ≢ 0 → 0 < R
somebody zero h = absurd (h nobody)
somebody (suc R) h = omega arith

pub nobody_empty : (k R : ℕ) → R < 2 ^ k → ones R ≡ 0 → R ≡ 0
nobody_empty zero R small none = omega arith
nobody_empty (suc k) R small none = omega (arith, ones_step R, nobody_empty k (R / 2) (omega (arith, pow-succ' 2 k)) (omega (arith, ones_step R)))

pub nobody_has : (R j : ℕ) → ones R ≡ 0 → Has R j → ⊥
nobody_has R j none h = omega (arith, ones_without R j h)

own_digit : (R j : ℕ) → Has R j → Has (without R j) j → ⊥
own_digit R zero h g = omega arith
own_digit R (suc j) h g = own_digit (R / 2) j (half_has R j h) (rw (halved, half_without R j h) at g)

other_digit : (R j i : ℕ) → Has R j → i ≢ j → without R j / 2 ^ i % 2 ≡ R / 2 ^ i % 2
other_digit R zero zero h g = absurd (g refl)
other_digit R zero (suc i) h g = simp (halved, half_without_first R h)
other_digit R (suc j) zero h g = omega (arith, has_le R (suc j) h, pow-succ' 2 j)
other_digit R (suc j) (suc i) h g = simp (halved, half_without R j h) (other_digit (R / 2) j i (half_has R j h) (λ e. g (ap suc e)))

-- The set without j has exactly the others.
pub without_others : (R j : ℕ) → Has R j → (i : ℕ) → Has (without R j) i ↔ (Has R i × (i ≢ j))
without_others R j h i = (
  λ g. let other : i ≢ j = λ e. own_digit R j h (rw e at g) in (sym (other_digit R j i h other) ∙ g, other),
  λ g. other_digit R j i h g.1 ∙ g.0,
)

-- A set is a subset of itself, and stays one of the other when it loses a rider.
pub subset_all : {R : ℕ} → Subset R R
subset_all = record { within = omega arith; of = λ j has. has }

pub subset_less : {left R : ℕ} (j : ℕ) → Has left j → Subset left R → Subset (without left j) R
subset_less {left} j has so =
    record {
      within = omega (arith, so.within);
      of = λ i other. so.of i ((without_others left j has i).0 other).0;
    }

-- Of l riders, the set of all has exactly those below l.
pub all_have : (l j : ℕ) → Has (2 ^ l - 1) j ↔ (j < l)
all_have l j = (has_below (2 ^ l - 1) j l (omega (arith, pow_pos l)), has l j)
  where
    has : (l j : ℕ) → j < l → Has (2 ^ l - 1) j
    has zero j h = absurd (omega arith)
    has (suc l) zero h = omega (arith, pow_pos l, pow-succ' 2 l)
    has (suc l) (suc j) h =
        let half : (2 ^ suc l - 1) / 2 ≡ 2 ^ l - 1 = omega (arith, pow-succ' 2 l, pow_pos l) in
        rw (halved, half) (has l j (omega arith))

half_lowest : (R j : ℕ) → R % 2 ≡ 0 → LowestRider (R / 2) j → LowestRider R (suc j)
half_lowest R j even low = record { has = has_half R j low.has; first = first }
  where
    first : (i : ℕ) → i < suc j → Has R i → ⊥
    first zero l h = omega arith
    first (suc i) l h = low.first i (omega arith) (half_has R i h)

-- Trailing zeros count the riders below the lowest.
pub lowest_rider : (k R : ℕ) → 0 < R → R < 2 ^ k → LowestRider R (count_trailing_zeros k R)
unfolding count_trailing_zeros
lowest_rider zero R some small = absurd (omega arith)
lowest_rider (suc k) R some small = go (R % 2) refl (λ more. lowest_rider k (R / 2) more (omega (arith, pow-succ' 2 k)))
  where
    go : (digit : ℕ) → R % 2 ≡ digit → (0 < R / 2 → LowestRider (R / 2) (count_trailing_zeros k (R / 2)))
        → LowestRider R (under digit (count_trailing_zeros k (R / 2)))
    go zero even low = half_lowest R _ even (low (omega arith))
    go (suc digit) odd low = record { has = omega arith; first = λ i l. absurd (omega arith) }
