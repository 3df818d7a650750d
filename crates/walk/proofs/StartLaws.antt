-- The room before the first round, 0 at the start and none everywhere else, and what the engine makes of it.
use Prim.Native.Nat.{ℕ, ◌<◌, ◌≤◌}
use native.Mathlib.Omega.{arith}
use native.Mathlib.Decide.{ℕ_discrete}
use mathlib.Core.Path.{◌≡◌, ◌∙◌}
use mathlib.Core.Logic.{◌≢◌}
use mathlib.Core.List.{List, ◌++◌}
use lib.ListN.{length, get_or, set, take, drop, replicate}
use lib.Seq.{get_or-set_same, get_or-set_other}
use Rattle.std.proofs.Common.{length-append, length-drop}
use Rattle.std.proofs.lemmas.List.{drop_at, get_or_append_left, get_or-replicate, length-replicate, length-take-le}
use Rattle.rules.specs.Network.{SoundNetwork, node_count}
use Rattle.rules.specs.Walks.{no_distance}
use Rattle.rules.specs.Rooms.{WrittenTo}
use Rattle.rules.proofs.RoomLaws.{kept_then, kept_set}
use Rattle.least.specs.Trips.{At}
use Rattle.least.specs.Least.{Least}
use Rattle.least.specs.Spread.{Spread}
use Rattle.least.specs.WalkTrips.{WalkArcs}
use Rattle.least.proofs.Least.{least_none}
use Rattle.least.proofs.Trips.{compose}
use Rattle.least.proofs.WalkTrips.{inside, distance}
use Rattle.walk.specs.Row.{Row}

-- the first n places filled with x
pub filled : {n x : ℕ} {before part : List ℕ} → n ≤ length before → part ≡ replicate (length (take n before)) x
    → WrittenTo (λ v. x) n before (part ++ drop n before)
filled {n} {x} {before} {part} fits is =
    let whole : part ≡ replicate n x = rw (length-take-le n before fits) at is in
    let size : length part ≡ n = rw whole (length-replicate n x) in
    record {
      within = fits;
      kept = record { size = simp (length-append, length-drop) (omega (arith, size)); later = drop_at part _ n size };
      holds = λ v h. get_or_append_left part _ 0 v (omega (arith, size)) ∙ rw whole (get_or-replicate n v x 0 h);
    }

-- 0 at the start and the cap elsewhere are the least ways to be done at once
lone : {cap start u value : ℕ} → (u ≡ start → value ≡ 0) → (u ≢ start → value ≡ cap) → Least cap (At start u) value
lone {start = start} {u} here there = elim (ℕ_discrete u start) [
  | yes e ↦ record { capped = omega (arith, here e); lowest = λ d i. omega (arith, here e); met = λ h. (e, here e) }
  | no e ↦ rw (there e) (least_none (λ d i. e i.0))
]

module _ {network : List ℕ} {start : ℕ} {before t : List ℕ} (sound : SoundNetwork network) (below : start < node_count network)
    (clear : WrittenTo (λ v. no_distance) (node_count network) before t) where
  starts_least : {home : ℕ} → home ≡ 0 → (u : ℕ) → u < node_count network → Least no_distance (At start u) (get_or (set t start home) u 0)
  starts_least {home} free u h =
      lone (λ e. rw e (get_or-set_same t start home 0 (omega (arith, clear.within, clear.kept.size)) ∙ free))
      (λ e. get_or-set_other t start u home 0 e ∙ clear.holds u h)

  -- What spreads from 0 at the start are the walking distances.
  pub walked : {home : ℕ} {after : List ℕ}
      → Spread no_distance (node_count network) (WalkArcs network) (set t start home) after
      → home ≡ 0
      → Row network start before after
  walked {home} spread free =
      record {
        holds = λ v h. distance sound h (compose (inside sound) (starts_least free) v h (spread.least v h));
        kept = kept_then (kept_then clear.kept (kept_set t start home below)) spread.kept;
      }
