-- The moves of a certificate are the steps of a finish.
use Prim.Native.Nat.{ℕ, ◌-◌, ◌^◌, ◌<◌, ◌≤◌}
use mathlib.Core.Path.{◌≡◌, refl}
use mathlib.Core.Logic.{inl}
use mathlib.Core.List.{List}
use native.Mathlib.Decide.{dec_lt}
use native.Mathlib.Omega.{arith}
use borrow.Author.Tests.{lt-ltb, le-ltb}
use Rattle.rules.specs.Limits.{first_drive}
use Rattle.rules.specs.Network.{node_count, SoundNetwork}
use Rattle.rules.specs.Request.{SoundValue, rider_count_of}
use Rattle.rules.specs.Routes.{RiderHolds}
use Rattle.rules.specs.Plans.{Has}
use Rattle.rules.specs.declared.Request.{Request}
use Rattle.rules.proofs.RiderLaws.{rider_holds_unique, held_walks}
use Rattle.finish.proofs.Sets.{has_below}
use Rattle.finish.proofs.Bounds.{rider_bounded}
use Rattle.right.specs.Reading.{Step, meets, drives}
use Rattle.cases.proofs.Tests.{Says}
use Rattle.cases.proofs.Certificate.{Move, move, meet_move, drive_move}

-- every place of D holds a rider's walking distance
abbrev pub DistancesHold : List ℕ → Request → (ℕ → ℕ → ℕ) → Type 0
DistancesHold network q D = (j v : ℕ) → j < rider_count_of q → v < node_count network → RiderHolds network q j v (D j v)

-- A move is allowed and leads to S and x at the cost c.
pub record Goes (m : Move) (S x c : ℕ) : Type 0 where
  pub allowed : Says m.allowed
  pub set : S ≡ m.set
  pub node : x ≡ m.node
  pub cost : c ≡ m.cost

module _ {network : List ℕ} {q : Request} {D : ℕ → ℕ → ℕ}
    (sound : SoundNetwork network) (value : SoundValue (node_count network) q) (walking : DistancesHold network q D)
    {R v : ℕ} (small : R < 2 ^ rider_count_of q) (h : v < node_count network) where
  held : {j : ℕ} → Has R j → RiderHolds network q j v (D j v)
  held {j} has = walking j v (has_below R j (rider_count_of q) small has) h

  pub step_move : {step S x c : ℕ} → Step network q R v step S x c → Goes (move network q D R v step) S x c
  step_move {step} {S} {x} {c} (meets d has walks s n e) =
      let same : d ≡ D step v = rider_holds_unique (inl walks) (held has) in
      let goes : Goes (meet_move network q D R v step) S x c = record {
        allowed = (has, omega (arith, rider_bounded sound h walks));
        set = s;
        node = n;
        cost = rw same at e;
      } in
      rw (lt-ltb step first_drive (omega (arith, value.riders, has_below R step (rider_count_of q) small has))) goes
  step_move {step} {S} {x} {c} (drives k w s leads n e) =
      let same : step - first_drive ≡ k = omega arith in
      let goes : Goes (drive_move network q D R v k) S x c = record {
        allowed = (leads.exists, (leads.starts, omega arith));
        set = n;
        node = cc;
        cost = cc;
      } in
      simp (le-ltb step first_drive (omega arith), same) goes

  -- A step along a move leads where it leads.
  abbrev Taking : ℕ → Move → Type 0
  Taking step m = Says m.allowed → Step network q R v step m.set m.node m.cost

  pub move_step : (step : ℕ) → Taking step (move network q D R v step)
  move_step step = elim (dec_lt step first_drive) [
    | yes l ↦ rw (lt-ltb step first_drive l) meeting
    | no l ↦ rw (le-ltb step first_drive (omega arith)) (driving (omega arith))
  ]
    where
      meeting : Taking step (meet_move network q D R v step)
      meeting (has, near) = meets (D step v) has (held_walks (held has) (omega arith)) refl refl refl

      driving : first_drive ≤ step → Taking step (drive_move network q D R v (step - first_drive))
      driving high (exists, (starts, opened)) =
          drives (step - first_drive) _ (omega arith)
          (record { exists = exists; starts = starts; ends = refl; costs = refl; opened = opened })
          refl
          refl
