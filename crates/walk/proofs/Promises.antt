-- A row of walking distances is one content, and wrong answers that the walking entry's promise shuts out, whatever the network: a
-- distance that no walk has, and no walk, or a longer one, where a link leads to the start.
use Prim.Native.Nat.{ℕ, ◌≤◌, ◌<◌}
use mathlib.Core.Path.{◌≡◌, sym, ◌∙◌}
use mathlib.Core.Logic.{◌≢◌, inl, inr}
use mathlib.Core.List.{List, [], ◌∷◌}
use lib.ListN.{get_or}
use Rattle.rules.specs.Network.{node_count, walk}
use Rattle.rules.specs.Walks.{Leads, Walk, no_distance, HoldsDistance}
use Rattle.rules.specs.Answers.{Outcome, gives, Walked}
use Rattle.rules.proofs.WalkLaws.{walk_along, walk_back, way_one, holds_distance_unique}
use Rattle.rules.proofs.RoomLaws.{kept_unique}
use Rattle.rules.proofs.AnswerLaws.{verdict_told_apart}
use Rattle.walk.specs.Row.{Row}
use Rattle.rules.specs.Checks.{Accepted}

pub row_unique : {network : List ℕ} {start : ℕ} {before a b : List ℕ} → Row network start before a → Row network start before b → a ≡ b
row_unique p q = kept_unique p.kept q.kept (λ v h. holds_distance_unique (p.holds v h) (q.holds v h))

module _ {network : List ℕ} {start : ℕ} {before after : List ℕ} {answer : Outcome}
    (walked : Walked network start before after answer) (accepted : answer ≡ gives (0 ∷ [])) (v : ℕ) (h : v < node_count network) where
  held : HoldsDistance network start v (get_or after v 0)
  held = walked.fills (verdict_told_apart _ Accepted (sym walked.answers ∙ accepted)) v h

  -- Every distance but none is the sum of a walk.
  pub distance_walked : get_or after v 0 ≢ no_distance → (links : List ℕ) × Walk network start v links (get_or after v 0)
  distance_walked some = elim held [
    | inl distance ↦ (distance.links, distance.walked)
    | inr none ↦ absurd (some none.1)
  ]

  -- A link that leads to the start is walked from there: its own start is no farther than it costs.
  pub link_walked_back : {k w : ℕ} → Leads network (walk network) k v start w → get_or after v 0 ≤ w
  link_walked_back {k} {w} link =
      let back : Walk network start v (k ∷ []) w = way_one (walk_back (walk_along link)) in
      elim held [ inl distance ↦ distance.least _ w back | inr none ↦ absurd (none.0 _ w back) ]
