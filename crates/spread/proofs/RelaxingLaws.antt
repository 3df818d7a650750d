-- Relaxing keeps tentative sums tentative; when nothing changes any more, they are the least.
use Prim.Native.Nat.{ℕ, zero, suc, ◌+◌, ◌<◌, ◌≤◌}
use native.Mathlib.Omega.{arith}
use borrow.Author.Count.{below_more}
use mathlib.Core.Path.{refl, ◌∙◌, ap}
use mathlib.Core.Bool.{Bool, true, false, ◌||◌}
use mathlib.Core.List.{List, [], ◌∷◌}
use lib.ListN.{length, get_or, set}
use Rattle.rules.specs.Rooms.{Kept}
use Rattle.rules.proofs.Clash.{clash}
use Rattle.rules.proofs.RoomLaws.{at_set, kept_none, kept_then, kept_set}
use Rattle.least.specs.Trips.{Arcs, Inits, Inside}
use Rattle.least.specs.Least.{Tentative}
use Rattle.least.specs.Spread.{Spread}
use Rattle.least.specs.WalkTrips.{Linked}
use Rattle.least.proofs.Trips.{tentative, relax, fixpoint}
use Rattle.spread.specs.Relaxing.{Relaxing, still, lowered, Lowered, low, lower, RelaxedLink, RelaxedBelow, total, Progress}

lower_total : (t : List ℕ) (u x : ℕ) → x < get_or t u 0 → total (set t u x) < total t
unfolding total
lower_total [] u x h = absurd (omega arith)
lower_total (y ∷ t) zero x h = omega arith
lower_total (y ∷ t) (suc u) x h = omega (arith, lower_total t u x h)

module _ {n : ℕ} {Arc : Arcs} {before : List ℕ} where
  pub relaxing_kept : {after : List ℕ} → Relaxing n Arc before after → Kept n before after
  relaxing_kept (still e) = rw e kept_none
  relaxing_kept (lowered mid u v w so h arc less e) = rw e (kept_then (relaxing_kept so) (kept_set mid u _ h))

  module _ {cap : ℕ} {Init : Inits} (inside : Inside n Arc) (fits : n ≤ length before) where
    pub relaxing_sums : {after : List ℕ} → ((u : ℕ) → u < n → Tentative cap Arc Init u (get_or before u 0))
        → Relaxing n Arc before after → (u : ℕ) → u < n → Tentative cap Arc Init u (get_or after u 0)
    relaxing_sums sums (still e) i h = rw e (sums i h)
    relaxing_sums sums (lowered mid u v w so h arc less e) i g =
        let earlier = relaxing_sums sums so in
        let lower = relax (earlier u h) (earlier v (inside u v w h arc)) arc less in
        rw e (at_set (Tentative cap Arc Init) mid u _ (omega (arith, (relaxing_kept so).size)) lower i (earlier i g))

module _ {n : ℕ} {Arc : Arcs} where
  pub relaxing_then : {before mid after : List ℕ} → Relaxing n Arc before mid → Relaxing n Arc mid after → Relaxing n Arc before after
  relaxing_then so (still e) = rw e so
  relaxing_then so (lowered last u v w more h arc less e) = lowered last u v w (relaxing_then so more) h arc less e

  pub progress_none : {Settled : List ℕ → Type 0} {t : List ℕ} → Settled t → Progress n Arc Settled t t false
  progress_none s = record { relaxing = still refl; quiet = λ e. (refl, s); falls = λ h. clash (cc) }

  pub progress_one : {Settled : List ℕ → Type 0} (t : List ℕ) (u v w : ℕ) → u < n → Arc u v w → w + get_or t v 0 < get_or t u 0
      → Progress n Arc Settled t (set t u (w + get_or t v 0)) true
  progress_one t u v w h arc less =
      record { relaxing = lowered t u v w (still refl) h arc less refl; quiet = λ e. clash (cc); falls = λ g. lower_total t u _ less }

  -- an arc that is looked at, where all is settled once it makes no sum smaller
  pub progress_lowered : {Settled : List ℕ → Type 0} {before after : List ℕ} {u v w : ℕ} {changed : Bool} → u < n → Arc u v w
      → (get_or before u 0 ≤ w + get_or before v 0 → Settled before) → Lowered u v w before after changed
      → Progress n Arc Settled before after changed
  progress_lowered h arc settled (low loose same none) = rw (same, none) (progress_none (settled loose))
  progress_lowered h arc settled (lower less put one) = rw (put, one) (progress_one _ _ _ _ h arc less)

  no_rise : {S : List ℕ → Type 0} {before after : List ℕ} (changed : Bool) → Progress n Arc S before after changed → total after ≤ total before
  no_rise false so = omega (arith, ap total (so.quiet refl).0)
  no_rise true so = omega (arith, so.falls refl)

  -- one stretch of work after another
  pub progress_then : {S T Both : List ℕ → Type 0} {before mid after : List ℕ} {c d : Bool} → ((t : List ℕ) → S t → T t → Both t)
      → Progress n Arc S before mid c → Progress n Arc T mid after d → Progress n Arc Both before after (c || d)
  progress_then {before = before} {after = after} {c = false} {d} both first second =
      let (same, s) = first.quiet refl in
      record {
        relaxing = relaxing_then first.relaxing second.relaxing;
        quiet = λ e.
            (let (same', t) = second.quiet e in
            (same' ∙ same, both after (rw same' s) t));
        falls = λ h. omega (arith, ap total same, second.falls h);
      }
  progress_then {c = true} {d} both first second =
      record {
        relaxing = relaxing_then first.relaxing second.relaxing;
        quiet = λ e. clash (cc);
        falls = λ h. omega (arith, first.falls refl, no_rise d second);
      }

  -- the links below k and then link k
  pub next_link : {Link : ℕ → Arcs} {before mid after : List ℕ} {k : ℕ} {c d : Bool} → Progress n Arc (RelaxedBelow Link k) before mid c
      → Progress n Arc (RelaxedLink Link k) mid after d → Progress n Arc (RelaxedBelow Link (k + 1)) before after (c || d)
  next_link {Link} {k = k} first second = progress_then (λ t below here. below_more (λ (i : ℕ). RelaxedLink Link i t) k below here) first second

-- Once no link makes a sum smaller, what stands there is what an engine promises
pub spreads : {n : ℕ} {Link : ℕ → Arcs} {cap : ℕ} {before after : List ℕ} → Inside n (Linked Link) → n ≤ length before
    → ((u : ℕ) → u < n → get_or before u 0 ≤ cap) → Relaxing n (Linked Link) before after → ((k : ℕ) → RelaxedLink Link k after)
    → Spread cap n (Linked Link) before after
spreads {before = before} {after} inside fits capped so relaxed =
    record {
      least = fixpoint inside (relaxing_sums inside fits (λ u h. tentative before u (capped u h)) so) (λ u v w h g a. relaxed a.0 u v w a.1);
      kept = relaxing_kept so;
    }
