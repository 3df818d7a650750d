-- A number put into a room from its last byte on.
use Prim.Native.Nat.{ℕ, suc, ◌+◌, ◌-◌, ◌/◌, ◌%◌, ◌<◌, ◌≤◌}
use native.Mathlib.Omega.{arith}
use mathlib.Core.Path.{◌≡◌, refl, sym, ◌∙◌, ap}
use mathlib.Core.List.{List, ◌∷◌, ◌++◌, append-nil}
use lib.ListN.{length, set, take, drop, length-set}
use lib.Seq.{drop-cons, append_snoc, get_or-set_same, drop-set-lt, take-set-le, take-add}
use Rattle.rules.specs.Numbers.{bytes_of}
use Rattle.rules.specs.Rooms.{Put}
use Rattle.rules.proofs.BytesLaws.{bytes_length}

-- The bytes from i up to the end stand there, and with those of what is left before them make the number's.
pub record Filled (x size at end : ℕ) (before room : List ℕ) (left i : ℕ) : Type 0 where
  pub from : at ≤ i
  pub to : i ≤ end
  pub within : end ≤ length before
  pub size_kept : length room ≡ length before
  pub earlier : take at room ≡ take at before
  pub later : drop end room ≡ drop end before
  pub whole : bytes_of (i - at) left ++ take (end - i) (drop i room) ≡ bytes_of size x

module _ {x size at end : ℕ} {before : List ℕ} where
  pub filled_none : end ≡ at + size → end ≤ length before → Filled x size at end before before x end
  filled_none e h =
      let all : end - at ≡ size = omega arith in
      let none : end - end ≡ 0 = omega arith in
      record {
        from = omega arith;
        to = omega arith;
        within = h;
        size_kept = refl;
        earlier = refl;
        later = refl;
        whole = rw (all, none) (append-nil (bytes_of size x));
      }

  module _ {room : List ℕ} {left i : ℕ} (so : Filled x size at end before room left i) where
    pub filled_more : at < i → Filled x size at end before (set room (i - 1) (left % 256)) (left / 256) (i - 1)
    unfolding bytes_of
    filled_more more =
        record {
          from = omega arith;
          to = omega (arith, so.to);
          within = so.within;
          size_kept = length-set room (i - 1) (left % 256) ∙ so.size_kept;
          earlier = take-set-le at room (i - 1) (left % 256) (omega arith) ∙ so.earlier;
          later = drop-set-lt end room (i - 1) (left % 256) (omega (arith, so.to)) ∙ so.later;
          whole =
              rw (rest, there)
              (sym (append_snoc (bytes_of (i - 1 - at) (left / 256)) (left % 256) (take (end - i) (drop i room))) ∙ again);
        }
      where
        one_more : i - at ≡ suc (i - 1 - at)
        one_more = omega arith

        again : bytes_of (suc (i - 1 - at)) left ++ take (end - i) (drop i room) ≡ bytes_of size x
        again = ap (λ (k : ℕ). bytes_of k left ++ take (end - i) (drop i room)) (sym one_more) ∙ so.whole

        rest : end - (i - 1) ≡ suc (end - i)
        rest = omega (arith, so.to)

        next : suc (i - 1) ≡ i
        next = omega arith

        inside : i - 1 < length room
        inside = omega (arith, so.to, so.within, so.size_kept)

        there : drop (i - 1) (set room (i - 1) (left % 256)) ≡ left % 256 ∷ drop i room
        there =
            drop-cons (set room (i - 1) (left % 256)) (i - 1) 0 (rw length-set inside)
            ∙ rw (get_or-set_same room (i - 1) (left % 256) 0 inside, drop-set-lt (suc (i - 1)) room (i - 1) (left % 256) (omega arith), next)

    pub filled_all : end ≡ at + size → i ≡ at → Put at (bytes_of size x) before room end
    unfolding bytes_of
    filled_all e done =
        let none : i - at ≡ 0 = omega arith in
        record {
          size = so.size_kept;
          ends = omega (arith, e, bytes_length size x);
          within = so.within;
          says =
              rw (whole_length, take-add at (end - at) room, so.earlier)
              (ap (λ (bytes : List ℕ). take at before ++ bytes) (rw (none, done) at so.whole));
          later = so.later;
        }
      where
        whole_length : end ≡ at + (end - at)
        whole_length = omega (arith, e)
