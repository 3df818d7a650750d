-- Laws of least sums of trips.
use Prim.Native.Nat.{ℕ, ◌+◌, ◌≤◌, ◌<◌}
use mathlib.Core.Path.{refl}
use mathlib.Core.List.{List}
use lib.ListN.{get_or}
use native.Mathlib.Omega.{arith}
use Rattle.least.specs.Trips.{Arcs, Inits, Trip, done, step, Starts, Inside}
use Rattle.least.specs.Least.{Least, Tentative, Relaxed}
use Rattle.least.proofs.Least.{carry}

-- The values before are tentative sums.
pub tentative : {cap : ℕ} {Arc : Arcs} (before : List ℕ) (u : ℕ) → get_or before u 0 ≤ cap
    → Tentative cap Arc (Starts before) u (get_or before u 0)
tentative before u h = record { capped = h; started = λ c i. omega arith; met = λ l. done (record { value = refl }) }

-- To relax an arc gives a tentative sum.
pub relax : {cap : ℕ} {Arc : Arcs} {Init : Inits} {u v w s t : ℕ} → Tentative cap Arc Init u t → Tentative cap Arc Init v s
    → Arc u v w → w + s < t → Tentative cap Arc Init u (w + s)
relax {v = v} {w} {s} here there a less =
    record {
      capped = omega arith;
      started = λ c i. omega (arith, here.started c i);
      met = λ h. step v w s a (there.met (omega arith)) refl;
    }

module _ {n : ℕ} {Arc : Arcs} (inside : Inside n Arc) {cap : ℕ} {Init : Inits} where
  -- Tentative sums that no arc makes smaller are the least. By induction on a trip from u: if it is done at u, the sum of u is at
  -- most that start; if it goes on by an arc of weight w to v, the sum of u is at most w and the sum of v, which is at most what
  -- is left of the trip.
  pub fixpoint : {T : ℕ → ℕ} → ((u : ℕ) → u < n → Tentative cap Arc Init u (T u)) → Relaxed n Arc T → (u : ℕ) → u < n
      → Least cap (Trip Arc Init u) (T u)
  fixpoint {T} sums relaxed u h = record { capped = (sums u h).capped; lowest = λ d. below u d h; met = (sums u h).met }
    where
      below : (u d : ℕ) → u < n → Trip Arc Init u d → T u ≤ d
      below u d h (done i) = (sums u h).started d i
      below u d h (step v w rest a t e) =
          let g : v < n = inside u v w h a in
          omega (arith, relaxed u v w h g a, below v rest g t)

  -- Starts that are themselves least may be taken for all those of which they are the least. A trip to one of those is undercut
  -- by the same arcs with the least start at their end. A trip to a least start whose sum is below the cap has a start below the
  -- cap, so that start is one of those.
  pub compose : {before : List ℕ} → ((u : ℕ) → u < n → Least cap (Init u) (get_or before u 0)) → (u : ℕ) {t : ℕ} → u < n
      → Least cap (Trip Arc (Starts before) u) t → Least cap (Trip Arc Init u) t
  compose {before} starts u h = carry (λ d. under u d h) (λ d. into u d h)
    where
      under : (u d : ℕ) → u < n → Trip Arc Init u d → (e : ℕ) × Trip Arc (Starts before) u e × (e ≤ d)
      under u d h (done i) = (get_or before u 0, done (record { value = refl }), (starts u h).lowest d i)
      under u d h (step v w rest a t e) =
          let (s, r, g) = under v rest (inside u v w h a) t in
          (w + s, step v w s a r refl, omega arith)

      into : (u d : ℕ) → u < n → d < cap → Trip Arc (Starts before) u d → Trip Arc Init u d
      into u d h l (done i) = done (rw (← i.value) at ((starts u h).met (omega arith)))
      into u d h l (step v w rest a t e) = step v w rest a (into v rest (inside u v w h a) (omega arith) t) e
