-- The numbers of a record: unsigned, the highest byte first (1.1).
use Rattle.std.specs.Prelude.{ℕ, zero, suc, ◌+◌, ◌*◌, ◌/◌, ◌%◌, ◌^◌, ◌<◌, List, [], ◌∷◌, ◌++◌, get_or}

abbrev pub byte : List ℕ → ℕ → ℕ
byte s i = get_or s i 0

-- the number of `size` bytes at i
unfoldable pub number : ℕ → List ℕ → ℕ → ℕ
number zero s i = 0
number (suc size) s i = 256 * number size s i + byte s (i + size)

abbrev pub two : List ℕ → ℕ → ℕ
two = number 2

-- the low `size` bytes of a number
unfoldable pub bytes_of : ℕ → ℕ → List ℕ
bytes_of zero x = []
bytes_of (suc size) x = bytes_of size (x / 256) ++ x % 256 ∷ []

-- numbers of two bytes each, one behind the other
unfoldable pub twos_of : List ℕ → List ℕ
twos_of [] = []
twos_of (x ∷ xs) = bytes_of 2 x ++ twos_of xs

-- Numbers that fit so many bytes each: bytes are numbers that fit one.
pub record Fit (size : ℕ) (xs : List ℕ) : Type 0 where
  pub below : (i : ℕ) → get_or xs i 0 < 256 ^ size
