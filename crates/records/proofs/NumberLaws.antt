-- Big-endian numbers, byte by byte.
use Prim.Native.Nat.{ℕ, ◌+◌, ◌*◌, ◌^◌, ◌<◌}
use native.Mathlib.Omega.{arith}
use native.Mathlib.Nat.{pow-suc}
use native.Mathlib.Numerals.{add-one}
use mathlib.Core.Path.{◌≡◌, refl}
use mathlib.Core.List.{List}
use Rattle.rules.specs.Numbers.{byte, number}

-- x is the number of the first k bytes at i, as small as k bytes are
pub record Read (s : List ℕ) (i k x : ℕ) : Type 0 where
  pub value : x ≡ number k s i
  pub below : x < 256 ^ k

module _ (s : List ℕ) (i : ℕ) where
  pub read_none : Read s i 0 0
  unfolding number
  read_none = record { value = refl; below = omega arith }

  -- one byte more
  pub read_more : (k : ℕ) {x b : ℕ} → Read s i k x → b ≡ byte s (i + k) → b < 256 → Read s i (k + 1) (256 * x + b)
  unfolding number
  read_more k {x} {b} so e h =
      record {
        value = rw (add-one, so.value, e);
        below = rw (add-one, pow-suc) (omega arith);
      }
