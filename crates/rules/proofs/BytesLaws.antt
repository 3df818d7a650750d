-- Numbers as bytes: what is put together is taken apart again, and the other way.
use Prim.Native.Nat.{ℕ, zero, suc, ◌+◌, ◌-◌, ◌*◌, ◌/◌, ◌%◌, ◌^◌, ◌≤◌, ◌<◌}
use native.Mathlib.Omega.{arith}
use native.Mathlib.Decide.{dec_lt}
use native.Mathlib.Nat.{pow-suc, add_assoc}
use mathlib.Core.Path.{◌≡◌, refl, sym, ◌∙◌, ap}
use mathlib.Core.List.{List, [], ◌∷◌, ◌++◌, append_assoc}
use lib.ListN.{length, get_or, take, drop, length-append, length-drop, take-append-drop, get_or-append}
use lib.Seq.{length-take-le, take-suc, take-add, get_or-append-add, get_or_at, get_or-drop}
use Rattle.rules.specs.Rooms.{Put}
use Rattle.rules.specs.Numbers.{byte, number, two, bytes_of, twos_of, Fit}

pub bytes_length : (size x : ℕ) → length (bytes_of size x) ≡ size
unfolding bytes_of
bytes_length zero x = refl
bytes_length (suc size) x =
    length-append (bytes_of size (x / 256)) (x % 256 ∷ []) ∙ omega (arith, bytes_length size (x / 256))

pub twos_length : (xs : List ℕ) → length (twos_of xs) ≡ 2 * length xs
unfolding twos_of
twos_length [] = refl
twos_length (x ∷ xs) =
    omega (arith, length-append (bytes_of 2 x) (twos_of xs), bytes_length 2 x, twos_length xs)

-- ---- a number within the front of a list, and one behind it
module _ (front rest : List ℕ) where
  pub number_front : (size i : ℕ) → i + size ≤ length front → number size (front ++ rest) i ≡ number size front i
  unfolding number
  number_front zero i h = refl
  number_front (suc size) i h =
      rw (number_front size i (omega arith), get_or-append front rest 0 (i + size) (omega arith))

  pub number_behind : (size i : ℕ) → number size (front ++ rest) (length front + i) ≡ number size rest i
  unfolding number
  number_behind zero i = refl
  number_behind (suc size) i =
      rw (number_behind size i, add_assoc, get_or-append-add front rest (i + size) 0)

-- ---- the bytes of a number are read as that number
pub number_bytes : (size x : ℕ) → x < 256 ^ size → number size (bytes_of size x) 0 ≡ x
unfolding number bytes_of
number_bytes zero x h = omega arith
number_bytes (suc size) x h =
    rw (
      number_front (bytes_of size (x / 256)) (x % 256 ∷ []) size 0 (omega (arith, long)),
      number_bytes size (x / 256) (omega (arith, pow-suc 256 size)),
      get_or_at (bytes_of size (x / 256)) (x % 256) [] 0 (0 + size) (omega (arith, long)),
    ) (omega arith)
  where
    long : length (bytes_of size (x / 256)) ≡ size
    long = bytes_length size (x / 256)

bytes_number : (size : ℕ) {s : List ℕ} (i : ℕ) → Fit 1 s → i + size ≤ length s → bytes_of size (number size s i) ≡ take size (drop i s)
unfolding number bytes_of
bytes_number zero i so h = refl
bytes_number (suc size) {s} i so h =
    let high : (256 * number size s i + byte s (i + size)) / 256 ≡ number size s i = omega (arith, so.below (i + size)) in
    let low : (256 * number size s i + byte s (i + size)) % 256 ≡ byte s (i + size) = omega (arith, so.below (i + size)) in
    rw (
      high,
      low,
      bytes_number size i so (omega arith),
      take-suc (drop i s) size 0 (omega (arith, length-drop i s)),
      get_or-drop i s size 0,
    )

-- ---- numbers of two bytes in a row: each stands at its place
fit_rest : {size x : ℕ} {xs : List ℕ} → Fit size (x ∷ xs) → Fit size xs
fit_rest so = record { below = λ i. so.below (suc i) }

pub twos_at : (xs : List ℕ) (i : ℕ) → Fit 2 xs → i < length xs → two (twos_of xs) (2 * i) ≡ get_or xs i 0
unfolding twos_of
twos_at [] i so h = absurd (omega arith)
twos_at (x ∷ xs) zero so h =
    number_front (bytes_of 2 x) (twos_of xs) 2 0 (omega (arith, bytes_length 2 x)) ∙ number_bytes 2 x (so.below 0)
twos_at (x ∷ xs) (suc i) so h =
    let next : 2 * suc i ≡ length (bytes_of 2 x) + 2 * i = omega (arith, bytes_length 2 x) in
    rw next (number_behind (bytes_of 2 x) (twos_of xs) 2 (2 * i) ∙ twos_at xs i (fit_rest so) (omega arith))

-- ---- the numbers of a list of bytes, one behind the other, are the list
module _ {s : List ℕ} (so : Fit 1 s) where
  pub bytes_then : (size i : ℕ) {front : List ℕ} {x : ℕ} → front ≡ take i s → x ≡ number size s i → i + size ≤ length s
      → front ++ bytes_of size x ≡ take (i + size) s
  bytes_then size i before e h = rw (before, e, bytes_number size i so h) (sym (take-add i size s))

  pub twos_then : (i j : ℕ) (xs : List ℕ) → j ≡ i + 2 → i + 2 ≤ length s → take i s ++ twos_of (two s i ∷ xs) ≡ take j s ++ twos_of xs
  unfolding twos_of
  twos_then i j xs e h =
      rw e (sym (append_assoc (take i s) (bytes_of 2 (two s i)) (twos_of xs)) ∙ ap (λ (front : List ℕ). front ++ twos_of xs)
      (bytes_then 2 i refl refl h))

-- ---- a number that was put into a room stands there
pub put_read : (size x at : ℕ) {end : ℕ} {before after : List ℕ} → x < 256 ^ size → Put at (bytes_of size x) before after end
    → number size after at ≡ x
put_read size x at {end} {before} {after} h put =
    ap (λ (s : List ℕ). number size s at) (sym (take-append-drop end after))
    ∙ number_front (take end after) (drop end after) size at (omega (arith, inside, ends))
    ∙ ap (λ (s : List ℕ). number size s at) put.says
    ∙ ap (number size (take at before ++ bytes_of size x)) there
    ∙ number_behind (take at before) (bytes_of size x) size 0
    ∙ number_bytes size x h
  where
    ends : end ≡ at + size
    ends = omega (arith, put.ends, bytes_length size x)

    inside : length (take end after) ≡ end
    inside = length-take-le end after (omega (arith, put.within, put.size))

    there : at ≡ length (take at before) + 0
    there = omega (arith, length-take-le at before (omega (arith, put.within, ends)))

-- ---- what is put together of bytes is bytes
pub append_fit : {size : ℕ} {xs ys : List ℕ} → Fit size xs → Fit size ys → Fit size (xs ++ ys)
append_fit {size} {xs} {ys} one other = record { below = λ i. place i (dec_lt i (length xs)) }
  where
    place : (i : ℕ) → Dec (i < length xs) → get_or (xs ++ ys) i 0 < 256 ^ size
    place i (yes h) = rw (get_or-append xs ys 0 i h) (one.below i)
    place i (no h) =
        let behind : i ≡ length xs + (i - length xs) = omega arith in
        rw (behind, get_or-append-add xs ys (i - length xs) 0) (other.below (i - length xs))

pub bytes_fit : (size x : ℕ) → Fit 1 (bytes_of size x)
unfolding bytes_of
bytes_fit zero x = record { below = λ i. omega arith }
bytes_fit (suc size) x = append_fit (bytes_fit size (x / 256)) (record { below = one })
  where
    one : (i : ℕ) → get_or (x % 256 ∷ []) i 0 < 256 ^ 1
    one zero = omega arith
    one (suc i) = omega arith

pub twos_fit : (xs : List ℕ) → Fit 1 (twos_of xs)
unfolding twos_of
twos_fit [] = record { below = λ i. omega arith }
twos_fit (x ∷ xs) = append_fit (bytes_fit 2 x) (twos_fit xs)
