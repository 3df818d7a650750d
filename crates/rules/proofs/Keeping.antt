-- Demand 1: a refusal changes no memory but what is named for it (4.8).
use Prim.Native.Nat.{ℕ}
use mathlib.Core.Path.{◌≡◌}
use mathlib.Core.Logic.{◌≢◌}
use mathlib.Core.List.{List, []}
use Rattle.rules.specs.Answers.{Walking, Walked, Pricing, refused, stranded, priced, refuses, PricedRoute, Searching, hopeless, planned}
use Rattle.rules.specs.declared.Request.{Request}
use Rattle.rules.specs.Rooms.{Lent}
use Rattle.rules.specs.Writing.{Writing}
use Rattle.rules.specs.Checks.{Verdict}
use Rattle.std.specs.Prelude.{Ok, Err}

module _ {number place : ℕ} where
  walking_keeps : (verdict : Verdict) {network : List ℕ} {start : ℕ} {before after : List ℕ}
      → Walking verdict network start before after (refuses number place) → after ≡ before
  walking_keeps (Ok _) w = let z = w.answers in cc
  walking_keeps (Err r) w = w.kept.later

  pub walk_keeps : {network : List ℕ} {start : ℕ} {before after : List ℕ} → Walked network start before after (refuses number place)
      → after ≡ before
  walk_keeps w = walking_keeps _ w

  no_meetings : {verdict : Verdict} {network : List ℕ} {q : Request} {route meetings : List ℕ}
      → Pricing verdict network q route (refuses number place) meetings → meetings ≡ []
  no_meetings (refused r v a m) = m
  no_meetings (stranded j v h s first a m) = m
  no_meetings (priced c v p size a) = cc

  pub price_keeps : {network request route before after : List ℕ}
      → PricedRoute network request route before after (refuses number place) → after ≡ before
  price_keeps p = let none = no_meetings p.pricing in rw none at p.written

  pub write_keeps : (verdict : Verdict) {bytes before after : List ℕ} → Writing verdict bytes before after (refuses number place)
      → after ≡ before
  write_keeps (Ok _) w = let z = w.answers in cc
  write_keeps (Err r) w = w.written

  -- Every refusal of the search but 24 keeps all three rooms, and 24 the steps.
  pub search_keeps : {verdict : Verdict} {network : List ℕ} {q : Request} {before after : Lent}
      → Searching verdict network q before after (refuses number place) → number ≢ 24 → after ≡ before
  search_keeps (refused r v a m) other = m
  search_keeps (hopeless v d t n a m) other = let same : number ≡ 24 = cc in absurd (other same)
  search_keeps (planned plan c v d t p a m) other = cc

  pub search_keeps_steps : {verdict : Verdict} {network : List ℕ} {q : Request} {before after : Lent}
      → Searching verdict network q before after (refuses number place) → after.steps ≡ before.steps
  search_keeps_steps (refused r v a m) = cc
  search_keeps_steps (hopeless v d t n a m) = m
  search_keeps_steps (planned plan c v d t p a m) = cc
