-- A writer: checks of the numbers, then a check of the room, then the record's bytes; and how it ends.
use Prim.Native.Nat.{ℕ, ◌≤◌}
use native.Mathlib.Omega.{arith}
use mathlib.Core.Path.{◌≡◌, refl, ◌∙◌, ap}
use mathlib.Core.Logic.{◌⊎◌, inl, inr, ⊎_elim}
use mathlib.Core.Bool.{Bool}
use mathlib.Core.List.{List, [], ◌∷◌, ◌++◌}
use lib.ListN.{length, take}
use lib.Seq.{take-append_seam}
use borrow.Author.Tests.{le-ltb, ltb-false}
use Rattle.rules.specs.Checks.{number_of, Check, check, refuse, first_of, Verdict, Accepted}
use Rattle.rules.specs.Answers.{Outcome, gives, refuses, refusal_outcome}
use Rattle.rules.specs.Rooms.{Written, Put}
use Rattle.rules.specs.Writing.{Writing, room_check}
use Rattle.rules.specs.declared.refusal.Fault.{Fault}
use Rattle.rules.specs.declared.refusal.Refusal.{Refusal}
use Rattle.rules.proofs.Clash.{clash}
use Rattle.rules.proofs.Order.{accepted_head, accepted_front, accepted_rest, front_passed, front_refused}
use Rattle.rules.proofs.Refusals.{Gives, none_given, check_given}
use Rattle.rules.proofs.PuttingLaws.{put_written}
use Rattle.rules.specs.declared.refusal.Fault.TheVariants.{GivenNode, GivenNumber}
use Rattle.std.specs.Prelude.{Ok, Err}

-- The refusals of numbers.
abbrev pub NumberRefused : Refusal → Type 0
NumberRefused r = (r ≡ refuse GivenNumber 0) ⊎ (r ≡ refuse GivenNode 0)

-- Both have passed.
pub room_accepted : (checks : List Check) (size room : ℕ) → first_of (checks ++ room_check size room ∷ []) ≡ Accepted
    → (first_of checks ≡ Accepted) × (size ≤ room)
room_accepted checks size room e = (accepted_front checks _ e, ltb-false room size (accepted_head _ _ (accepted_rest checks _ e)).0)

-- How each of the two ends.
pub writing_done : {verdict : Verdict} {bytes before after : List ℕ} {end : ℕ} → verdict ≡ Accepted → Put 0 bytes before after end
    → Writing verdict bytes before after (gives (end ∷ []))
writing_done {bytes = bytes} {end = end} e put =
    let size : end ≡ length bytes = omega (arith, put.ends) in
    record { answers = rw (e, size); written = rw e (put_written put) }

pub writing_refused : {verdict : Verdict} {bytes before : List ℕ} {r : Refusal} → verdict ≡ Err r
    → Writing verdict bytes before before (refusal_outcome r)
writing_refused e = record { answers = rw e; written = rw e }

module _ (checks : List Check) (size : ℕ) (bytes before after : List ℕ) where
  abbrev Wrote : Outcome → Type 0
  Wrote answer = Writing (first_of (checks ++ room_check size (length before) ∷ [])) bytes before after answer

  first_bytes : Written bytes before after → take (length bytes) after ≡ bytes
  first_bytes written = ap (take (length bytes)) written ∙ take-append_seam bytes _

  -- What was written had passed, and stands there with its length told.
  pub wrote : {values : List ℕ} → Wrote (gives values)
      → (first_of checks ≡ Accepted) × (values ≡ length bytes ∷ []) × (take (length bytes) after ≡ bytes)
  wrote {values} so = go (first_of (checks ++ room_check size (length before) ∷ [])) refl so
    where
      go : (v : Verdict) → first_of (checks ++ room_check size (length before) ∷ []) ≡ v → Writing v bytes before after (gives values)
          → (first_of checks ≡ Accepted) × (values ≡ length bytes ∷ []) × (take (length bytes) after ≡ bytes)
      go (Ok _) e w = let told = w.answers in (accepted_front checks _ e, cc, first_bytes w.written)
      go (Err r) e w = let told = w.answers in clash (cc)

  -- What passes and has room is written.
  pub writes : {answer : Outcome} → first_of checks ≡ Accepted → size ≤ length before → Wrote answer
      → (answer ≡ gives (length bytes ∷ [])) × (take (length bytes) after ≡ bytes)
  unfolding first_of
  writes {answer} passed room so =
      let accepted : first_of (checks ++ room_check size (length before) ∷ []) ≡ Accepted =
      front_passed checks _ passed ∙ simp (le-ltb _ _ room) in
      let w : Writing Accepted bytes before after answer = rw accepted at so in
      (w.answers, first_bytes w.written)

  -- What passes is refused for the room alone.
  pub wants_room : {number place : ℕ} → first_of checks ≡ Accepted → Wrote (refuses number place) → number ≡ 83
  wants_room {number} {place} passed so = go (first_of (room_check size (length before) ∷ [])) refl (rw (front_passed checks _ passed) at so)
    where
      go : (v : Verdict) → first_of (room_check size (length before) ∷ []) ≡ v → Writing v bytes before after (refuses number place) → number ≡ 83
      go (Ok _) e w = let told = w.answers in clash (cc)
      go (Err r) e w =
          let told = w.answers in
          let room = (check_given {P = λ (x : Refusal). number_of x.fault ≡ 83} (room_check size (length before)) refl none_given).given r e in
          cc

  -- What does not pass is refused for its numbers.
  pub wants_numbers : {answer : Outcome} → Gives NumberRefused checks → (first_of checks ≡ Accepted → ⊥) → Wrote answer
      → (answer ≡ refuses 81 0) ⊎ (answer ≡ refuses 82 0)
  wants_numbers {answer} numbers never so = go (first_of checks) refl
    where
      go : (v : Verdict) → first_of checks ≡ v → (answer ≡ refuses 81 0) ⊎ (answer ≡ refuses 82 0)
      go (Ok _) e = absurd (never e)
      go (Err r) e =
          let told : answer ≡ refusal_outcome r = rw (front_refused checks _ r e) at so.answers in
          ⊎_elim (λ same. inl (told ∙ ap refusal_outcome same)) (λ same. inr (told ∙ ap refusal_outcome same)) (numbers.given r e)

pub number_check : {fault : Fault} {applies : Bool} {rest : List Check} → NumberRefused (refuse fault 0) → Gives NumberRefused rest
    → Gives NumberRefused (check fault 0 applies ∷ rest)
number_check one later = check_given _ one later
