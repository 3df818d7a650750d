-- Going through checks in their order: what is passed changes nothing, and the first that applies is given.
use Prim.Native.Nat.{ℕ, zero, suc, ◌+◌, ◌-◌, ◌<◌, ◌≤◌}
use native.Mathlib.Omega.{arith}
use native.Mathlib.Numerals.{add-one}
use native.Mathlib.Nat.{sub-zero, add-zero}
use mathlib.Core.Path.{◌≡◌, refl, sym, ◌∙◌, ap}
use mathlib.Core.Bool.{Bool, true, false, cond}
use mathlib.Core.List.{List, [], ◌∷◌, ◌++◌}
use Rattle.rules.specs.Checks.{Check, check, refuse, first_of, each, Verdict, Accepted}
use Rattle.rules.specs.declared.refusal.Fault.{Fault}
use Rattle.rules.specs.declared.refusal.Refusal.{Refusal}
use Rattle.rules.proofs.Clash.{clash}
use Rattle.std.specs.Prelude.{Ok, Err}

pub given : (fault : Fault) (place : ℕ) {applies : Bool} (rest : List Check) → applies ≡ true
    → first_of (check fault place applies ∷ rest) ≡ Err (refuse fault place)
unfolding first_of
given fault place rest e = rw e

pub passed : (fault : Fault) (place : ℕ) {applies : Bool} (rest : List Check) → applies ≡ false
    → first_of (check fault place applies ∷ rest) ≡ first_of rest
unfolding first_of
passed fault place rest e = rw e

-- one check more in front of a front that ends in x
behind : (b : Bool) (r : Refusal) {front whole x : Verdict}
    → cond b (Err r) front ≡ x
    → (front ≡ x → whole ≡ x)
    → cond b (Err r) whole ≡ x
behind true r e f = e
behind false r e f = f e

before : (b : Bool) (r : Refusal) {front whole rest : Verdict}
    → cond b (Err r) front ≡ Accepted
    → (front ≡ Accepted → whole ≡ rest)
    → cond b (Err r) whole ≡ rest
before true r e f = clash (cc)
before false r e f = f e

-- a refusal of the front is the refusal of the whole
pub front_refused : (front rest : List Check) (r : Refusal) → first_of front ≡ Err r → first_of (front ++ rest) ≡ Err r
unfolding first_of
front_refused [] rest r e = clash (cc)
front_refused (c ∷ front) rest r e = behind c.applies (refuse c.fault c.place) e (front_refused front rest r)

-- an accepted front leaves the whole to the rest
pub front_passed : (front rest : List Check) → first_of front ≡ Accepted → first_of (front ++ rest) ≡ first_of rest
unfolding first_of
front_passed [] rest e = refl
front_passed (c ∷ front) rest e = before c.applies (refuse c.fault c.place) e (front_passed front rest)

-- a verdict, and where it accepts, the next
abbrev pub then : Verdict → Verdict → Verdict
then (Ok _) next = next
then (Err r) next = Err r

pub in_order : (front rest : List Check) → first_of (front ++ rest) ≡ then (first_of front) (first_of rest)
in_order front rest = go (first_of front) refl
  where
    go : (v : Verdict) → first_of front ≡ v → first_of (front ++ rest) ≡ then v (first_of rest)
    go (Ok _) e = front_passed front rest e
    go (Err r) e = front_refused front rest r e

-- A verdict v on the front alone: a refusal is the verdict on the whole, and acceptance leaves the whole to the rest.
pub stops : (front rest : List Check) {v : Verdict} (r : Refusal) → v ≡ first_of front → v ≡ Err r → v ≡ first_of (front ++ rest)
stops front rest r is told = told ∙ sym (front_refused front rest r (sym is ∙ told))

pub goes_on : (front rest : List Check) {v : Verdict} → v ≡ first_of front → v ≡ Accepted → first_of rest ≡ first_of (front ++ rest)
goes_on front rest is told = sym (front_passed front rest (sym is ∙ told))

-- Accepted means that none applies: not the first, and none of the rest.
none_applies : (b : Bool) (r : Refusal) {rest : Verdict} → cond b (Err r) rest ≡ Accepted → (b ≡ false) × (rest ≡ Accepted)
none_applies true r e = clash (cc)
none_applies false r e = (refl, e)

pub check_passed : (b : Bool) (r : Refusal) {v : Verdict} → v ≡ cond b (Err r) Accepted → v ≡ Accepted → b ≡ false
check_passed b r told passes = (none_applies b r (sym told ∙ passes)).0

pub accepted_head : (c : Check) (rest : List Check) → first_of (c ∷ rest) ≡ Accepted → (c.applies ≡ false) × (first_of rest ≡ Accepted)
unfolding first_of
accepted_head c rest e = none_applies c.applies (refuse c.fault c.place) e

pub accepted_front : (front rest : List Check) → first_of (front ++ rest) ≡ Accepted → first_of front ≡ Accepted
unfolding first_of
accepted_front [] rest e = refl
accepted_front (c ∷ front) rest e =
    let (here, later) = accepted_head c (front ++ rest) e in
    rw here (accepted_front front rest later)

pub accepted_rest : (front rest : List Check) → first_of (front ++ rest) ≡ Accepted → first_of rest ≡ Accepted
accepted_rest front rest e = sym (front_passed front rest (accepted_front front rest e)) ∙ e

-- of things in a row: none of the checks of any of them
pub accepted_each : (checks : ℕ → List Check) (count first : ℕ) → first_of (each checks count first) ≡ Accepted → (k : ℕ) → k < count
    → first_of (checks (first + k)) ≡ Accepted
unfolding each
accepted_each checks zero first e k h = absurd (omega arith)
accepted_each checks (suc count) first e zero h = rw add-zero (accepted_front (checks first) _ e)
accepted_each checks (suc count) first e (suc k) h =
    let moved : first + suc k ≡ suc first + k = omega arith in
    rw moved (accepted_each checks count (suc first) (accepted_rest (checks first) _ e) k (omega arith))

-- and the other way: where none applies, accepted
pub all_pass : (checks : ℕ → List Check) (count first : ℕ) → ((k : ℕ) → k < count → first_of (checks (first + k)) ≡ Accepted)
    → first_of (each checks count first) ≡ Accepted
unfolding each first_of
all_pass checks zero first pass = refl
all_pass checks (suc count) first pass =
    front_passed (checks first) _ (rw add-zero at (pass 0 (omega arith)))
    ∙ all_pass checks count (suc first) (λ k h. let moved : suc first + k ≡ first + suc k = omega arith in rw moved (pass (suc k) (omega arith)))

-- the checks of things in a row, from k on: those of k, then those from k + 1 on
each_from : (checks : ℕ → List Check) (count k : ℕ) → k < count
    → each checks (count - k) k ≡ checks k ++ each checks (count - (k + 1)) (k + 1)
unfolding each
each_from checks count k h =
    let left : count - k ≡ suc (count - (k + 1)) = omega arith in
    rw (left, add-one)

-- what is left from k on: thing k, and then those behind it
pub each_here : (checks : ℕ → List Check) (count k : ℕ) → k < count
    → first_of (each checks (count - k) k) ≡ then (first_of (checks k)) (first_of (each checks (count - (k + 1)) (k + 1)))
each_here checks count k h = ap first_of (each_from checks count k h) ∙ in_order (checks k) (each checks (count - (k + 1)) (k + 1))

-- Of `count` things in a row the first k have passed: what is left gives the whole.
pub record Passed (checks : ℕ → List Check) (count k : ℕ) : Type 0 where
  pub within : k ≤ count
  pub left : first_of (each checks (count - k) k) ≡ first_of (each checks count 0)

module _ (checks : ℕ → List Check) (count : ℕ) where
  pub passed_none : Passed checks count 0
  passed_none = record { within = omega arith; left = rw sub-zero }

  module _ (k : ℕ) (so : Passed checks count k) where
    pub passed_more : k < count → first_of (checks k) ≡ Accepted → Passed checks count (k + 1)
    passed_more h e =
        record {
          within = omega arith;
          left =
              sym (front_passed (checks k) (each checks (count - (k + 1)) (k + 1)) e)
              ∙ ap first_of (sym (each_from checks count k h))
              ∙ so.left;
        }

    pub passed_until : (r : Refusal) → k < count → first_of (checks k) ≡ Err r → first_of (each checks count 0) ≡ Err r
    passed_until r h e =
        sym so.left
        ∙ ap first_of (each_from checks count k h)
        ∙ front_refused (checks k) (each checks (count - (k + 1)) (k + 1)) r e

    pub passed_all : count ≤ k → first_of (each checks count 0) ≡ Accepted
    unfolding each first_of
    passed_all h =
        let none : count - k ≡ 0 = omega arith in
        sym so.left ∙ rw none
