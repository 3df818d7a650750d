-- Records put piece by piece: how far each piece reaches, and what one piece more makes.
use Prim.Native.Nat.{ℕ, zero, suc, ◌+◌, ◌*◌, ◌≤◌, ◌<◌}
use native.Mathlib.Omega.{arith}
use native.Mathlib.Nat.{add-zero, zero-add}
use native.Mathlib.Numerals.{add-one}
use mathlib.Core.Path.{◌≡◌, sym, ◌∙◌, ap}
use mathlib.Core.List.{List, [], ◌∷◌, ◌++◌, append_assoc, append-nil}
use lib.ListN.{length, get_or, take}
use lib.Seq.{length-take-le, take_all}
use Rattle.rules.specs.Numbers.{bytes_of, twos_of}
use Rattle.rules.specs.Request.{riders_from, rider_count_of, rider_node_of, rider_weight_of}
use Rattle.rules.specs.Rooms.{Put}
use Rattle.rules.specs.declared.Request.{Request}
use Rattle.rules.proofs.BytesLaws.{bytes_length, twos_length}
use Rattle.rules.proofs.RequestWritingLaws.{riders_length}
use Rattle.rules.proofs.PuttingLaws.{put_nothing, put_then}

pub put_end : (size x : ℕ) {at end : ℕ} {before after : List ℕ} → Put at (bytes_of size x) before after end → end ≡ at + size
put_end size x p = omega (arith, p.ends, bytes_length size x)

-- ---- the first i of a list of numbers
twos_more : (xs : List ℕ) (i : ℕ) → i < length xs → twos_of (take (suc i) xs) ≡ twos_of (take i xs) ++ bytes_of 2 (get_or xs i 0)
unfolding twos_of
twos_more [] i h = absurd (omega arith)
twos_more (x ∷ xs) zero h = append-nil (bytes_of 2 x)
twos_more (x ∷ xs) (suc i) h =
    ap (λ (rest : List ℕ). bytes_of 2 x ++ rest) (twos_more xs i (omega arith))
    ∙ sym (append_assoc (bytes_of 2 x) (twos_of (take i xs)) (bytes_of 2 (get_or xs i 0)))

pub record TwosPut (xs : List ℕ) (at : ℕ) (before after : List ℕ) (end i : ℕ) : Type 0 where
  pub within : i ≤ length xs
  pub put : Put at (twos_of (take i xs)) before after end

module _ {xs : List ℕ} {at : ℕ} {before : List ℕ} where
  pub twos_none : at ≤ length before → TwosPut xs at before before at 0
  unfolding twos_of
  twos_none h = record { within = omega arith; put = put_nothing before h }

  module _ {between : List ℕ} {mid i : ℕ} (so : TwosPut xs at before between mid i) where
    pub twos_end : mid ≡ at + 2 * i
    twos_end = omega (arith, so.put.ends, twos_length (take i xs), length-take-le i xs so.within)

    pub twos_one : {after : List ℕ} {end x : ℕ} → i < length xs → x ≡ get_or xs i 0 → Put mid (bytes_of 2 x) between after end
        → TwosPut xs at before after end (i + 1)
    twos_one {x = x} h e p =
        record { within = omega arith; put = rw (add-one, twos_more xs i h, ← e) (put_then so.put p) }

    pub twos_all : length xs ≤ i → Put at (twos_of xs) before between mid
    twos_all h = rw (← take_all i xs h) so.put

-- ---- the first j riders
riders_more : (q : Request) (count k : ℕ)
    → riders_from q (suc count) k ≡ riders_from q count k ++ (bytes_of 2 (rider_node_of q (k + count)) ++ bytes_of 1 (rider_weight_of q (k + count)))
unfolding riders_from
riders_more q zero k = rw add-zero (append-nil (bytes_of 2 (rider_node_of q k) ++ bytes_of 1 (rider_weight_of q k)))
riders_more q (suc count) k =
    let moved : k + suc count ≡ suc k + count = omega arith in
    let first = bytes_of 2 (rider_node_of q k) ++ bytes_of 1 (rider_weight_of q k) in
    rw moved (ap (λ (rest : List ℕ). first ++ rest) (riders_more q count (suc k)) ∙ sym (append_assoc first (riders_from q count (suc k)) _))

pub record RidersPut (q : Request) (at : ℕ) (before after : List ℕ) (end j : ℕ) : Type 0 where
  pub within : j ≤ rider_count_of q
  pub put : Put at (riders_from q j 0) before after end

module _ {q : Request} {at : ℕ} {before : List ℕ} where
  pub riders_none : at ≤ length before → RidersPut q at before before at 0
  unfolding riders_from
  riders_none h = record { within = omega arith; put = put_nothing before h }

  module _ {between : List ℕ} {mid j : ℕ} (so : RidersPut q at before between mid j) where
    pub riders_end : mid ≡ at + 3 * j
    riders_end = omega (arith, so.put.ends, riders_length q j 0)

    pub riders_one : {inside after : List ℕ} {half end : ℕ} → j < rider_count_of q → Put mid (bytes_of 2 (rider_node_of q j)) between inside half
        → Put half (bytes_of 1 (rider_weight_of q j)) inside after end → RidersPut q at before after end (j + 1)
    riders_one h node weight =
        record { within = omega arith; put = rw (add-one, riders_more q j 0, zero-add) (put_then so.put (put_then node weight)) }
