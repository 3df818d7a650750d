-- What a list of steps says with one step more in front, and the list of its positions.
use Prim.Native.Nat.{ℕ, zero, suc, ◌+◌, ◌-◌, ◌^◌, ◌<◌, ◌≤◌}
use mathlib.Core.Path.{◌≡◌}
use mathlib.Core.Logic.{◌≢◌}
use mathlib.Core.List.{List, ◌∷◌}
use lib.ListN.{get_or}
use native.Mathlib.Nat.{add-zero, pow-succ'}
use native.Mathlib.Omega.{arith}
use borrow.Author.Tests.{lt-ltb, le-ltb, eq-eqb, ne_eqb}
use Rattle.rules.specs.Limits.{first_drive, most_riders}
use Rattle.rules.specs.Routes.{Drivable, node_at}
use Rattle.rules.specs.Plans.{Has, without, drive_step}
use Rattle.finish.proofs.Sets.{has_below}
use Rattle.right.specs.Steps.{drives_of, met_at, times_met, positions_from}

-- The step that meets a rider of the set is no drive.
pub meets_low : {R j : ℕ} → R < 2 ^ most_riders → Has R j → j < first_drive
meets_low {R} {j} small has = omega (arith, has_below R j most_riders small has)

-- The first riders, without the last of them.
pub first_without : (l : ℕ) → without (2 ^ suc l - 1) l ≡ 2 ^ l - 1
first_without l = omega (arith, pow-succ' 2 l)

module _ {step : ℕ} (steps : List ℕ) where
  pub drives_meet : step < first_drive → drives_of (step ∷ steps) ≡ drives_of steps
  unfolding drives_of
  drives_meet h = rw (lt-ltb step first_drive h)

  pub drives_drive : first_drive ≤ step → drives_of (step ∷ steps) ≡ (step - first_drive) ∷ drives_of steps
  unfolding drives_of
  drives_drive h = rw (le-ltb step first_drive h)

  pub drives_link : {k : ℕ} → step ≡ drive_step k → drives_of (step ∷ steps) ≡ k ∷ drives_of steps
  drives_link {k} s =
      let e : step - first_drive ≡ k = omega arith in
      rw (drives_drive (omega arith), e)

  module _ {j : ℕ} where
    pub met_here : step ≡ j → met_at j (step ∷ steps) ≡ 0
    unfolding met_at
    met_here e = rw (eq-eqb step j e)

    pub met_meet : step ≢ j → step < first_drive → met_at j (step ∷ steps) ≡ met_at j steps
    unfolding met_at
    met_meet g h = simp (ne_eqb step j g, lt-ltb step first_drive h)

    pub met_drive : step ≢ j → first_drive ≤ step → met_at j (step ∷ steps) ≡ suc (met_at j steps)
    unfolding met_at
    met_drive g h = simp (ne_eqb step j g, le-ltb step first_drive h)

    pub times_here : step ≡ j → times_met j (step ∷ steps) ≡ suc (times_met j steps)
    unfolding times_met
    times_here e = rw (eq-eqb step j e)

    pub times_other : step ≢ j → times_met j (step ∷ steps) ≡ times_met j steps
    unfolding times_met
    times_other g = rw (ne_eqb step j g)

-- The position behind a drive step is the position before it of the steps from that link's end on.
pub node_drive : {network : List ℕ} {k v x w step : ℕ} (steps : List ℕ) (position : ℕ) → step ≡ drive_step k
    → Drivable network k v x w
    → node_at network v (drives_of (step ∷ steps)) (suc position) ≡ node_at network x (drives_of steps) position
unfolding node_at
node_drive steps position s link = simp (drives_link steps s, link.ends)

pub position_at : (count first j : ℕ) (steps : List ℕ) → j < count
    → get_or (positions_from count first steps) j 0 ≡ met_at (first + j) steps
unfolding positions_from
position_at zero first j steps h = absurd (omega arith)
position_at (suc count) first zero steps h = rw add-zero
position_at (suc count) first (suc j) steps h =
    let e : first + suc j ≡ suc first + j = omega arith in
    rw e (position_at count (suc first) j steps (omega arith))
