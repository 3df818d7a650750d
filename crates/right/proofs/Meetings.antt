-- Leaving one rider's meeting out of a finish, and inserting it elsewhere.
use Prim.Native.Nat.{ℕ, zero, suc, ◌+◌, ◌-◌, ◌*◌, ◌^◌, ◌<◌, ◌≤◌}
use mathlib.Core.Path.{◌≡◌, refl, sym, ap, ◌∙◌}
use mathlib.Core.Logic.{◌≢◌, inl, inr}
use mathlib.Core.List.{List, [], ◌∷◌}
use lib.ListN.{length}
use native.Mathlib.Nat.{sub_right_comm}
use native.Mathlib.Decide.{ℕ_discrete}
use native.Mathlib.Omega.{arith}
use Rattle.rules.specs.Limits.{first_drive, most_riders}
use Rattle.rules.specs.Request.{rider_weight_of, bus_weight_of}
use Rattle.rules.specs.Routes.{RiderWalks, node_at}
use Rattle.rules.specs.Plans.{Has, without, Finish, arrive, meet, drive, NoLater}
use Rattle.rules.specs.declared.Request.{Request}
use Rattle.right.specs.Steps.{drives_of, met_at}
use Rattle.finish.proofs.Sets.{none_has, without_others}
use Rattle.right.proofs.Steps.{meets_low, drives_meet, drives_drive, met_here, met_meet, met_drive, node_drive}

-- The second list is the first with rider j met besides, at a position, in any order with the others met there.
pub data MetBesides (j : ℕ) : ℕ → List ℕ → List ℕ → Type 0 where
  here : {p i : ℕ} {steps : List ℕ} → i ≡ j → p ≡ 0 → MetBesides j p steps (i ∷ steps)
  meeting : {p i : ℕ} {steps others : List ℕ} → i < first_drive → i ≢ j → MetBesides j p steps others → MetBesides j p (i ∷ steps) (i ∷ others)
  driving :
      {p step : ℕ} {steps others : List ℕ} (r : ℕ)
      → first_drive ≤ step
      → p ≡ suc r
      → MetBesides j r steps others
      → MetBesides j p (step ∷ steps) (step ∷ others)

pub besides_length : {j p : ℕ} {steps others : List ℕ} → MetBesides j p steps others → length others ≡ suc (length steps)
besides_length (here e z) = refl
besides_length (meeting h g a) = ap suc (besides_length a)
besides_length (driving r h e a) = ap suc (besides_length a)

module _ {j : ℕ} (rider : j < first_drive) where
  pub besides_drives : {p : ℕ} {steps others : List ℕ} → MetBesides j p steps others → drives_of others ≡ drives_of steps
  besides_drives (here {steps = steps} e z) = drives_meet steps (omega arith)
  besides_drives (meeting {steps = steps} {others} h g a) = drives_meet others h ∙ besides_drives a ∙ sym (drives_meet steps h)
  besides_drives (driving {step = step} {steps} {others} r h e a) =
      drives_drive others h ∙ ap (λ (l : List ℕ). (step - first_drive) ∷ l) (besides_drives a) ∙ sym (drives_drive steps h)

  pub besides_at : {p : ℕ} {steps others : List ℕ} → MetBesides j p steps others → met_at j others ≡ p
  besides_at (here {steps = steps} e z) = met_here steps e ∙ sym z
  besides_at (meeting {others = others} h g a) = met_meet others g h ∙ besides_at a
  besides_at (driving {others = others} r h e a) = met_drive others (omega arith) h ∙ ap suc (besides_at a) ∙ sym e

  pub besides_other : {i p : ℕ} {steps others : List ℕ} → i < first_drive → i ≢ j → MetBesides j p steps others → met_at i others ≡ met_at i steps
  besides_other o g (here {steps = steps} e z) = met_meet steps (λ f. g (cc)) (omega arith)
  besides_other {i} o g (meeting {i = k} {steps} {others} h f a) = elim (ℕ_discrete k i) [
    | yes e ↦ met_here others e ∙ sym (met_here steps e)
    | no e ↦ met_meet others e h ∙ besides_other o g a ∙ sym (met_meet steps e h)
  ]
  besides_other o g (driving {steps = steps} {others} r h e a) =
      met_drive others (omega arith) h ∙ ap suc (besides_other o g a) ∙ sym (met_drive steps (omega arith) h)

-- Whatever has rider j met at a later position comes later in the dictionary.
abbrev Ahead : ℕ → ℕ → List ℕ → List ℕ → Type 0
Ahead j p steps others = (r : ℕ) (later : List ℕ) → p < r → MetBesides j r steps later → NoLater later others → ⊥

ahead_last : (j : ℕ) (others : List ℕ) → Ahead j 0 [] others
ahead_last j others r later h (here e z) l = omega arith

ahead_drive : {step : ℕ} (j : ℕ) (steps others : List ℕ) → j < first_drive → first_drive ≤ step → Ahead j 0 (step ∷ steps) (j ∷ others)
unfolding NoLater
ahead_drive j steps others rider s r later h (here e z) l = omega arith
ahead_drive j steps others rider s r later h (meeting i g a) l = omega arith
ahead_drive j steps others rider s r later h (driving p i e a) (inl l) = omega arith
ahead_drive j steps others rider s r later h (driving p i e a) (inr l) = omega arith

past_meeting : {i : ℕ} (j p : ℕ) (steps others : List ℕ) → i < first_drive → Ahead j p steps others → Ahead j p (i ∷ steps) (i ∷ others)
unfolding NoLater
past_meeting j p steps others m ahead r later h (here e z) l = omega arith
past_meeting j p steps others m ahead r later h (meeting i g a) (inl l) = omega arith
past_meeting j p steps others m ahead r later h (meeting i g a) (inr l) = ahead r _ h a l.1
past_meeting j p steps others m ahead r later h (driving t i e a) l = omega arith

past_drive : {step : ℕ} (j p : ℕ) (steps others : List ℕ) → first_drive ≤ step → Ahead j p steps others
    → Ahead j (suc p) (step ∷ steps) (step ∷ others)
unfolding NoLater
past_drive j p steps others m ahead r later h (here e z) l = omega arith
past_drive j p steps others m ahead r later h (meeting i g a) l = omega arith
past_drive j p steps others m ahead r later h (driving t i e a) (inl l) = omega arith
past_drive j p steps others m ahead r later h (driving t i e a) (inr l) = ahead t _ (omega arith) a l.1

-- A finish of R without rider j's meeting: what is left, and where the meeting was.
pub record LeftOut (network : List ℕ) (q : Request) (R v j : ℕ) (steps : List ℕ) (cost : ℕ) : Type 0 where
  pub others : List ℕ
  pub position : ℕ
  pub distance : ℕ
  pub rest : ℕ
  pub besides : MetBesides j position others steps
  pub finishes : Finish network q (without R j) v others rest
  pub within : position ≤ length (drives_of others)
  pub walks : RiderWalks network q j (node_at network v (drives_of others) position) distance
  pub costs : cost ≡ rider_weight_of q j * distance + rest

-- A finish of R made from one without j: j is met at the position p, after all others that are met there.
pub record Inserted (network : List ℕ) (q : Request) (R v j p : ℕ) (steps : List ℕ) (cost : ℕ) : Type 0 where
  pub others : List ℕ
  pub finishes : Finish network q R v others cost
  pub besides : MetBesides j p steps others
  pub ahead : Ahead j p steps others

module _ {network : List ℕ} {q : Request} {j : ℕ} where
  -- Rider j's meeting can be left out: it changes neither where the bus is nor who else is still to be met.
  pub leave_out : {R v c : ℕ} {steps : List ℕ} → R < 2 ^ most_riders → Has R j → Finish network q R v steps c
      → LeftOut network q R v j steps c
  unfolding node_at
  leave_out small h (arrive e _ _) = absurd (none_has j (rw e at h))
  leave_out {R} {v} small h (meet {j = i} {steps = steps} d rest has walks f e) = elim (ℕ_discrete i j) [
    | yes same ↦ record {
      others = steps;
      position = 0;
      distance = d;
      rest = rest;
      besides = here same refl;
      finishes = rw same at f;
      within = omega arith;
      walks = rw same at walks;
      costs = rw same at e;
    }
    | no g ↦ (
        let t = leave_out {R = without R i} (omega arith) ((without_others R i has j).1 (h, λ o. g (sym o))) f in
        let low = meets_low small has in
        record {
          others = i ∷ t.others;
          position = t.position;
          distance = t.distance;
          rest = rider_weight_of q i * d + t.rest;
          besides = meeting low g t.besides;
          finishes = meet d t.rest ((without_others R j h i).1 (has, g)) walks (rw (sub_right_comm R (2 ^ i) (2 ^ j)) at t.finishes) refl;
          within = rw (drives_meet t.others low) t.within;
          walks = rw (drives_meet t.others low) t.walks;
          costs = omega arith;
        }
        )
  ]
  leave_out {R} {v} small h (drive {step = step} {steps = steps} k x w rest s link f e) =
      let high : first_drive ≤ step = omega arith in
      let t = leave_out small h f in
      record {
        others = step ∷ t.others;
        position = suc t.position;
        distance = t.distance;
        rest = bus_weight_of q * w + t.rest;
        besides = driving t.position high refl t.besides;
        finishes = drive k x w t.rest s link t.finishes refl;
        within = rw (drives_drive t.others high) (omega arith);
        walks = rw (node_drive t.others t.position s link) t.walks;
        costs = omega arith;
      }

  -- And it can be inserted at any position to whose node the rider can walk: before the drive step that leaves the position, or at
  -- the end.
  pub insert : {R S v c d : ℕ} {steps : List ℕ} → R < 2 ^ most_riders → Has R j → S ≡ without R j → Finish network q S v steps c
      → (p : ℕ) → p ≤ length (drives_of steps) → RiderWalks network q j (node_at network v (drives_of steps) p) d
      → Inserted network q R v j p steps (rider_weight_of q j * d + c)
  unfolding node_at drives_of
  insert {c = c} {d} small h set (arrive e t z) zero within walks =
      record {
        others = j ∷ [];
        finishes = meet d c h walks (arrive (sym set ∙ e) t z) refl;
        besides = here refl refl;
        ahead = ahead_last j (j ∷ []);
      }
  insert small h set (arrive e t z) (suc p) within walks = absurd (omega arith)
  insert {R} {S} {v} {d = d} small h set (meet {j = i} {c} {steps} e rest has walked f sum) p within walks =
      let (member, g) = (without_others R j h i).0 (rw set at has) in
      let low = meets_low small member in
      let t = insert {R = without R i} (omega arith) ((without_others R i member j).1 (h, λ o. g (sym o))) (omega arith) f p
      (rw (drives_meet steps low) at within)
      (rw (drives_meet steps low) at walks) in
      record {
        others = i ∷ t.others;
        finishes = meet {c = rider_weight_of q j * d + c} {steps = t.others} e _ member walked t.finishes (omega arith);
        besides = meeting {others = t.others} low g t.besides;
        ahead = past_meeting j p steps t.others low t.ahead;
      }
  insert {R} {d = d} small h set (drive {step = step} {c = c} {steps} k x w rest s link f e) zero within walks =
      record {
        others = j ∷ step ∷ steps;
        finishes = meet d c h walks (rw set at (drive k x w rest s link f e)) refl;
        besides = here refl refl;
        ahead = ahead_drive j steps (step ∷ steps) (meets_low small h) (omega arith);
      }
  insert {R} {d = d} small h set (drive {step = step} {c} {steps} k x w rest s link f e) (suc p) within walks =
      let high : first_drive ≤ step = omega arith in
      let t = insert {R = R} small h set f p (omega (arith, rw (drives_drive steps high) at within)) (rw (node_drive steps p s link) at walks) in
      record {
        others = step ∷ t.others;
        finishes = drive {c = rider_weight_of q j * d + c} k x w (rider_weight_of q j * d + rest) s link t.finishes (omega arith);
        besides = driving p high refl t.besides;
        ahead = past_drive j p steps t.others high t.ahead;
      }
