-- One link: it can be walked either way and driven one way, or is closed; and when that makes no sum of t smaller.
use Prim.Native.Nat.{ℕ, ◌+◌, ◌*◌, ◌<◌, ◌≤◌}
use native.Mathlib.Omega.{arith}
use mathlib.Core.Path.{◌≡◌, refl, sym, ◌∙◌, ap}
use mathlib.Core.List.{List}
use lib.ListN.{get_or}
use Rattle.rules.specs.Limits.{closed, packed_step}
use Rattle.rules.specs.Network.{link_count, from, to, drive, walk}
use Rattle.rules.specs.Walks.{Leads, Walkable}
use Rattle.rules.proofs.WalkLaws.{walk_along, walk_costs, walk_either, walk_each}
use Rattle.finish.specs.Packed.{DriveLink}
use Rattle.spread.specs.Relaxing.{RelaxedLink}

-- What the code reads of an open link says how it can be walked and driven.
module _ {network : List ℕ} {k start end cost : ℕ} (exists : k < link_count network) (reads-start : start ≡ from network k)
    (reads_end : end ≡ to network k) (opened : cost < closed) where
  leads : {paid : ℕ → ℕ} → cost ≡ paid k → Leads network paid k start end cost
  leads reads = record { exists = exists; starts = sym reads-start; ends = sym reads_end; costs = sym reads; opened = opened }

  pub walk_arc : cost ≡ walk network k → Walkable network k start end cost
  walk_arc reads = walk_along (leads reads)

  pub drive_arc : (weight : ℕ) → cost ≡ drive network k → DriveLink network weight k start end (packed_step (weight * cost))
  drive_arc weight reads = record { cost = cost; leads = leads reads; packs = refl }

module _ {network : List ℕ} {k : ℕ} (t : List ℕ) where
  -- A closed link makes no sum smaller,
  pub walk_closed : {cost : ℕ} → cost ≡ walk network k → closed ≤ cost → RelaxedLink (Walkable network) k t
  walk_closed reads shut u v w link = walk_either (λ x y. get_or t x 0 ≤ w + get_or t y 0) (λ exists opened. absurd (omega arith)) link

  pub drive_closed : {cost weight : ℕ} → cost ≡ drive network k → closed ≤ cost → RelaxedLink (DriveLink network weight) k t
  drive_closed reads shut u v w link = absurd (omega (arith, link.leads.costs, link.leads.opened))

  -- nor does walking it where neither of its ends is farther than the other and the cost,
  pub walk_loose : {u v cost : ℕ} → Walkable network k u v cost → get_or t u 0 ≤ cost + get_or t v 0 → get_or t v 0 ≤ cost + get_or t u 0
      → RelaxedLink (Walkable network) k t
  walk_loose {cost = cost} link there back x y w other =
      rw (sym (walk_costs other) ∙ walk_costs link) (walk_each (λ x y. get_or t x 0 ≤ cost + get_or t y 0) link there back other)

  -- nor driving it where its start is no higher than its end and the step.
  pub drive_loose : {weight u v step : ℕ} → DriveLink network weight k u v step → get_or t u 0 ≤ step + get_or t v 0
      → RelaxedLink (DriveLink network weight) k t
  drive_loose {weight} {u} {v} {step} link h x y w other =
      let starts : x ≡ u = sym other.leads.starts ∙ link.leads.starts in
      let ends : y ≡ v = sym other.leads.ends ∙ link.leads.ends in
      let costs : other.cost ≡ link.cost = sym other.leads.costs ∙ link.leads.costs in
      let same : w ≡ step = other.packs ∙ ap (λ c. packed_step (weight * c)) costs ∙ sym link.packs in
      rw (starts, ends, same) h
