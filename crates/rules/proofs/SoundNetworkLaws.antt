-- A network record is accepted exactly when it is sound.
use Prim.Native.Nat.{ℕ, ◌≤◌, ◌<◌}
use native.Mathlib.Omega.{arith}
use native.Mathlib.Nat.{zero-add}
use mathlib.Core.Path.{◌≡◌, ◌∙◌}
use mathlib.Core.List.{List}
use lib.ListN.{length}
use borrow.Author.Tests.{leb-false, lt-leb, eq-eqb}
use Rattle.rules.specs.Checks.{first_of, each, Accepted}
use Rattle.rules.specs.Limits.{most_nodes, most_links}
use Rattle.rules.specs.Network.{opening_checks, node_count, link_count, link_start, from, to, size_checks, link_checks, network_checks, network_opening}
use Rattle.rules.specs.Network.{network_verdict, SoundNetwork}
use Rattle.rules.proofs.Order.{accepted_head, accepted_front, accepted_rest, accepted_each, front_passed, all_pass}
use Rattle.rules.proofs.TestLaws.{neither, same, within, not_outside}
use Rattle.rules.proofs.OpeningLaws.{opening_accepted, opened_accepts}

-- the sizes of a network record
pub record NetworkSizes (s : List ℕ) : Type 0 where
  pub some_node : 1 ≤ node_count s
  pub nodes : node_count s ≤ most_nodes
  pub links : link_count s ≤ most_links
  pub whole : length s ≡ link_start (link_count s)

pub sizes_accepted : (s : List ℕ) → first_of (size_checks s) ≡ Accepted → NetworkSizes s
unfolding size_checks
sizes_accepted s e =
    let (a, e₁) = accepted_head _ _ e in
    let (b, e₂) = accepted_head _ _ e₁ in
    let (n, m) = neither _ _ a in
    record {
      some_node = (within _ _ _ n).0;
      nodes = (within _ _ _ n).1;
      links = (within _ _ _ m).1;
      whole = same _ _ b;
    }

link_accepted : (s : List ℕ) → first_of (each (link_checks s) (link_count s) 0) ≡ Accepted
    → (k : ℕ) → k < link_count s → (from s k < node_count s) × (to s k < node_count s)
link_accepted s e k h =
    let (here, rest) = accepted_head _ _ (accepted_each (link_checks s) (link_count s) 0 e k h) in
    let (a, b) = neither _ _ (rw zero-add at here) in
    (leb-false _ _ a, leb-false _ _ b)

-- the numbers of a network record that is accepted
pub network_sound : (s : List ℕ) → network_verdict s ≡ Accepted → SoundNetwork s
unfolding network_verdict network_checks
network_sound s e =
    let opening = opening_accepted network_opening s (accepted_front _ _ e) in
    let later = accepted_rest (opening_checks network_opening s) _ e in
    let sizes = sizes_accepted s (accepted_front _ _ later) in
    let links = link_accepted s (accepted_rest (size_checks s) _ later) in
    record {
      long = opening.long;
      version = omega arith;
      stated = opening.stated;
      some_node = sizes.some_node;
      nodes = sizes.nodes;
      links = sizes.links;
      whole = sizes.whole;
      starts = λ k h. (links k h).0;
      ends = λ k h. (links k h).1;
    }

sizes_accept : (s : List ℕ) → SoundNetwork s → first_of (size_checks s) ≡ Accepted
unfolding size_checks first_of
sizes_accept s so =
    simp (
      not_outside _ _ _ so.some_node so.nodes,
      not_outside 0 most_links _ (omega arith) so.links,
      eq-eqb _ _ so.whole,
    )

link_accepts : (s : List ℕ) → SoundNetwork s → (k : ℕ) → k < link_count s → first_of (link_checks s k) ≡ Accepted
unfolding first_of
link_accepts s so k h = simp (lt-leb _ _ (so.starts k h), lt-leb _ _ (so.ends k h))

-- no sound network record is refused
pub sound_network : (s : List ℕ) → SoundNetwork s → network_verdict s ≡ Accepted
unfolding network_verdict network_checks
sound_network s so =
    front_passed (opening_checks network_opening s) _
    (opened_accepts network_opening s (record { long = so.long; version = (omega arith, omega arith); stated = so.stated }))
    ∙ front_passed (size_checks s) _ (sizes_accept s so)
    ∙ all_pass (link_checks s) (link_count s) 0 (λ k h. rw zero-add (link_accepts s so k h))
