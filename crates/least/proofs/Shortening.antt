-- Trips of few arcs.
use Prim.Native.Nat.{ℕ, zero, suc, ◌+◌, ◌-◌, ◌*◌, ◌≤◌, ◌<◌}
use mathlib.Core.Path.{◌≡◌, refl, ap}
use mathlib.Core.Logic.{◌⊎◌, inl, inr, ⊎_elim}
use native.Mathlib.Nat.{le_refl, suc-mul, mul-le-mul_right}
use native.Mathlib.Decide.{ℕ_discrete}
use native.Mathlib.Omega.{arith}
use Rattle.least.specs.Trips.{Arcs, Inits, Trip, done, step, arc_count, Inside, Shortened}
use Rattle.least.proofs.Few.{Few, Without, few_below}

-- trips that stand at nodes of P alone
abbrev Among : (ℕ → Type 0) → Arcs → Inits → ℕ → ℕ → Type 0
Among P Arc Init = Trip (λ u v w. P u × Arc u v w) (λ u c. P u × Init u c)

module _ {Arc : Arcs} {Init : Inits} where
  stands : {P : ℕ → Type 0} {u sum : ℕ} → Among P Arc Init u sum → P u
  stands (done i) = i.0
  stands (step v w rest a t e) = a.0

  among : {n u sum : ℕ} → Inside n Arc → u < n → (t : Trip Arc Init u sum)
      → (s : Among (λ x. x < n) Arc Init u sum) × (arc_count s ≡ arc_count t)
  unfolding arc_count
  among inside h (done i) = (done (h, i), refl)
  among {u = u} inside h (step v w rest a t e) =
      let (s, same) = among inside (inside u v w h a) t in
      (step v w rest (h, a) s e, ap suc same)

  -- Either the trip never stands at x, or there is a shortened one from x: what follows its last visit there does not stand at x again.
  last : {P : ℕ → Type 0} (x k : ℕ)
      → ((v rest : ℕ) (t : Among (Without P x) Arc Init v rest) → Shortened Arc Init k v rest (arc_count t))
      → {u sum : ℕ} (t : Among P Arc Init u sum)
      → ((s : Among (Without P x) Arc Init u sum) × (arc_count s ≡ arc_count t)) ⊎ Shortened Arc Init (suc k) x sum (arc_count t)
  unfolding arc_count
  last x k shorten {u} {sum} (done i) = elim (ℕ_discrete u x) [
    | yes e ↦ inr (record { sum = sum; trip = done (rw e at i.1); cheap = le_refl sum; fewer = le_refl 0; short = omega arith })
    | no h ↦ inl (done ((i.0, h), i.1), refl)
  ]
  last x k shorten {u} (step v w rest a t e) = elim (last x k shorten t) [
    | inr s ↦ inr (record { sum = s.sum; trip = s.trip; cheap = omega arith; fewer = omega arith; short = s.short })
    | inl s ↦ elim (ℕ_discrete u x) [
      | yes h ↦ (
          let r = shorten v rest s.0 in
          let back = step v w r.sum (rw h at a.1) r.trip refl in
          inr (record { sum = w + r.sum; trip = back; cheap = omega arith; fewer = omega arith; short = omega arith })
          )
      | no h ↦ inl (step v w rest ((a.0, h), a.1) s.0 e, ap suc s.1)
    ]
  ]

  among_few : (k : ℕ) {P : ℕ → Type 0} → Few k P → (u sum : ℕ) (t : Among P Arc Init u sum) → Shortened Arc Init k u sum (arc_count t)
  unfolding Few
  among_few zero few u sum t = absurd (few u (stands t))
  among_few (suc k) {P} few u sum t =
      ⊎_elim (λ s. absurd ((stands {P = Without P u} s.0).1 refl)) (λ s. s) (last u k (among_few k (few u (stands t))) t)

  -- Every trip from a node u below n has one of no larger sum, no more arcs and fewer than n arcs. By induction on the number of
  -- nodes that the trip may stand at, n at first: leave out all that comes before its last visit to u. What follows the next arc
  -- never stands at u, so it may stand at one node less, and is shortened to fewer than n - 1 arcs. With no node to stand at
  -- there is no trip.
  pub shortened : {n u sum : ℕ} → Inside n Arc → u < n → (t : Trip Arc Init u sum) → Shortened Arc Init n u sum (arc_count t)
  shortened {n} {u} {sum} inside h t =
      let (s, same) = among inside h t in
      rw (← same) (among_few n (few_below n) u sum s)

  module _ (W S : ℕ) (weights : (u v w : ℕ) → Arc u v w → w ≤ W) (starts : (u c : ℕ) → Init u c → c ≤ S) where
    weighs : {u sum : ℕ} (t : Trip Arc Init u sum) → sum ≤ arc_count t * W + S
    unfolding arc_count
    weighs {u} {sum} (done i) = omega (arith, starts u sum i)
    weighs {u} (step v w rest a t e) = omega (arith, weights u v w a, weighs t, suc-mul (arc_count t) W)

    -- Where arcs weigh at most W and starts are at most S, a least sum is at most (n - 1) * W + S, since a shortened trip's sum is.
    pub bounded : {n u least sum : ℕ} → Inside n Arc → u < n → ((d : ℕ) → Trip Arc Init u d → least ≤ d) → Trip Arc Init u sum
        → least ≤ (n - 1) * W + S
    bounded {n} inside h lowest t =
        let s = shortened inside h t in
        let few : arc_count s.trip ≤ n - 1 = omega arith in
        omega (arith, lowest s.sum s.trip, weighs s.trip, mul-le-mul_right W few)
