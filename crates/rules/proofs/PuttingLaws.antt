-- Values put into a room piece by piece.
use Prim.Native.Nat.{ℕ, ◌+◌, ◌<◌, ◌≤◌}
use native.Mathlib.Omega.{arith}
use native.Mathlib.Numerals.{add-one}
use mathlib.Core.Path.{◌≡◌, refl, sym, ◌∙◌, ap}
use mathlib.Core.List.{List, [], ◌∷◌, ◌++◌, append-nil, append_assoc}
use lib.ListN.{length, set, take, drop, length-set, length-append, take-append-drop}
use lib.Seq.{take-suc-set, drop-set-lt, drop-drop}
use Rattle.rules.specs.Rooms.{Written, Put}

pub put_nothing : {at : ℕ} (before : List ℕ) → at ≤ length before → Put at [] before before at
put_nothing {at} before h = record { size = refl; ends = omega arith; within = h; says = sym (append-nil (take at before)); later = refl }

pub put_one : {at x : ℕ} (before : List ℕ) → at < length before → Put at (x ∷ []) before (set before at x) (at + 1)
put_one {at} {x} before h =
    record {
      size = length-set before at x;
      ends = refl;
      within = omega arith;
      says = rw add-one (take-suc-set before at x h);
      later = drop-set-lt (at + 1) before at x (omega arith);
    }

-- What is put behind values makes them more.
pub put_then : {at mid end : ℕ} {values more before between after : List ℕ} → Put at values before between mid
    → Put mid more between after end → Put at (values ++ more) before after end
put_then {at} {mid} {end} {values} {more} {before} {between} {after} p q =
    record {
      size = q.size ∙ p.size;
      ends = omega (arith, p.ends, q.ends, length-append values more);
      within = omega (arith, q.within, p.size);
      says = q.says ∙ ap (λ (front : List ℕ). front ++ more) p.says ∙ append_assoc (take at before) values more;
      later =
          q.later ∙ rw q.ends (sym (drop-drop (length more) mid between) ∙ ap (drop (length more)) p.later ∙ drop-drop
          (length more) mid before);
    }

-- What was put leaves one content and one end.
pub put_unique : {at x y : ℕ} {values before a b : List ℕ} → Put at values before a x → Put at values before b y → (a ≡ b) × (x ≡ y)
put_unique {at} {x} {y} {values} {before} {a} {b} p q =
    let ends : x ≡ y = p.ends ∙ sym q.ends in
    let later : drop x a ≡ drop y b = p.later ∙ ap (λ (k : ℕ). drop k before) ends ∙ sym q.later in
    let rest : take at before ++ values ++ drop x a ≡ take at before ++ values ++ drop y b = ap (λ (l : List ℕ). take at before ++ values ++ l) later in
    (parts p ∙ rest ∙ sym (parts q), ends)
  where
    parts : {end : ℕ} {after : List ℕ} → Put at values before after end → after ≡ take at before ++ values ++ drop end after
    parts {end} {after} put = sym (take-append-drop end after) ∙ ap (λ (front : List ℕ). front ++ drop end after) put.says

-- Values at the start of a room.
pub put_written : {end : ℕ} {values before after : List ℕ} → Put 0 values before after end → Written values before after
put_written {end} {values} {before} {after} p =
    sym (take-append-drop end after) ∙ ap (λ (front : List ℕ). front ++ drop end after) p.says ∙ ap
    (λ (rest : List ℕ). values ++ rest) (p.later ∙ ap (λ (k : ℕ). drop k before) ends)
  where
    ends : end ≡ length values
    ends = omega (arith, p.ends)
