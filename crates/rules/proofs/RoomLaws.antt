-- Rooms: what was kept, what one store changes, where the rows lie, and that what a room held before settles what it holds afterwards.
use Prim.Native.Nat.{ℕ, zero, suc, ◌+◌, ◌-◌, ◌*◌, ◌/◌, ◌%◌, ◌^◌, ◌<◌, ◌≤◌}
use mathlib.Core.Path.{◌≡◌, refl, ◌∙◌}
use mathlib.Core.List.{List}
use native.Mathlib.Omega.{arith}
use native.Mathlib.Decide.{ℕ_discrete, dec_lt}
use native.Mathlib.Nat.{mul-zero, mod-lt, div-add-mod', div-lt_iff_lt-mul, suc-mul, mul-le-mul_right}
use lib.ListN.{length, get_or, set, length-set}
use lib.Seq.{ext_get_or, get_or-drop, get_or-set_same, get_or-set_other, drop-set-lt}
use borrow.Author.Tests.{le-ltb, ltb-false}
use Rattle.rules.specs.Checks.{first_of, Accepted}
use Rattle.rules.specs.Request.{rider_count_of}
use Rattle.rules.specs.Rooms.{Kept, Distances, Table, Lent, Enough}
use Rattle.rules.specs.Answers.{room_checks}
use Rattle.rules.specs.declared.Request.{Request}
use Rattle.rules.proofs.Order.{accepted_head}
use Rattle.rules.proofs.RiderLaws.{rider_holds_unique}
use Rattle.rules.proofs.PlanLaws.{holds_finish_unique}

-- A property of every place after one store.
pub at_set : (P : ℕ → ℕ → Type 0) (t : List ℕ) (u x : ℕ) → u < length t → P u x → (i : ℕ) → P i (get_or t i 0) → P i (get_or (set t u x) i 0)
at_set P t u x h p i q =
    elim (ℕ_discrete i u) [ yes e ↦ rw (e, get_or-set_same t u x 0 h) p | no e ↦ rw (get_or-set_other t u i x 0 e) q ]

module _ {filled : ℕ} where
  pub kept_none : {t : List ℕ} → Kept filled t t
  kept_none = record { size = refl; later = refl }

  pub kept_then : {before mid after : List ℕ} → Kept filled before mid → Kept filled mid after → Kept filled before after
  kept_then one other = record { size = other.size ∙ one.size; later = other.later ∙ one.later }

  pub kept_set : (t : List ℕ) (i x : ℕ) → i < filled → Kept filled t (set t i x)
  kept_set t i x h = record { size = length-set t i x; later = drop-set-lt filled t i x h }

  -- Two rooms that agree where they were filled and kept the rest are the same.
  pub kept_unique : {before a b : List ℕ} → Kept filled before a → Kept filled before b
      → ((i : ℕ) → i < filled → get_or a i 0 ≡ get_or b i 0) → a ≡ b
  kept_unique {a = a} {b} k l same = ext_get_or 0 a b (cc) (λ i h. place i (dec_lt i filled))
    where
      place : (i : ℕ) → Dec (i < filled) → get_or a i 0 ≡ get_or b i 0
      place i (yes h) = same i h
      place i (no h) =
          let e : filled + (i - filled) ≡ i = omega arith in
          cc (e, get_or-drop filled a (i - filled) 0, get_or-drop filled b (i - filled) 0)

-- A row of n places lies within the rows, and so does each of its places.
pub row_within : (n : ℕ) {rows row : ℕ} → row < rows → row * n + n ≤ rows * n
row_within n {rows} {row} h = omega (arith, mul-le-mul_right n h, suc-mul row n)

pub place_within : {n rows row v : ℕ} → row < rows → v < n → row * n + v < rows * n
place_within {n} h g = omega (arith, row_within n h)

-- What agrees at each place of each row agrees at each place below rows times places.
rows_agree : (rows places : ℕ) (f g : ℕ → ℕ)
    → ((j v : ℕ) → j < rows → v < places → f (j * places + v) ≡ g (j * places + v))
    → (i : ℕ) → i < rows * places → f i ≡ g i
rows_agree rows zero f g same i h = absurd (omega (arith, mul-zero rows))
rows_agree rows (suc n) f g same i h =
    rw (div-add-mod' i (suc n)) at (same (i / suc n) (i % suc n) ((div-lt_iff_lt-mul (omega arith)).1 h) (mod-lt i (omega arith)))

module _ {network : List ℕ} {q : Request} {before a b : List ℕ} where
  -- The distances have one final content.
  pub distances_unique : Distances network q before a → Distances network q before b → a ≡ b
  distances_unique d e =
      kept_unique d.kept e.kept
      (rows_agree (rider_count_of q) _ _ _ (λ j v h k. rider_holds_unique (d.holds j v h k) (e.holds j v h k)))

  -- The table has one final content.
  pub table_unique : Table network q before a → Table network q before b → a ≡ b
  table_unique d e =
      kept_unique d.kept e.kept
      (rows_agree (2 ^ rider_count_of q) _ _ _ (λ j v h k. holds_finish_unique (d.holds j v h k) (e.holds j v h k)))

-- Three rooms are the same where each of them is.
pub lent_same : {a b : Lent} → a.distances ≡ b.distances → a.table ≡ b.table → a.steps ≡ b.steps → a ≡ b
lent_same d t s = λ i. record { distances = d i; table = t i; steps = s i }

-- Rooms pass their checks exactly when they are large enough.
module _ (n l : ℕ) (rooms : Lent) where
  pub rooms_accepted : first_of (room_checks n l (length rooms.distances) (length rooms.table) (length rooms.steps)) ≡ Accepted
      → Enough n l rooms
  rooms_accepted e =
      let (a, e₁) = accepted_head _ _ e in
      let (b, e₂) = accepted_head _ _ e₁ in
      let (c, e₃) = accepted_head _ _ e₂ in
      record { distances = ltb-false _ _ a; table = ltb-false _ _ b; steps = ltb-false _ _ c }

  pub rooms_enough : Enough n l rooms
      → first_of (room_checks n l (length rooms.distances) (length rooms.table) (length rooms.steps)) ≡ Accepted
  unfolding first_of
  rooms_enough so = simp (le-ltb _ _ so.distances, le-ltb _ _ so.table, le-ltb _ _ so.steps)
