-- The tablet's number tells the price from a refusal, and which: a price is below the first refusal. And a wrong order of refusals.
use Prim.Native.Nat.{ℕ, ◌+◌, ◌%◌, ◌≤◌, ◌<◌}
use native.Mathlib.Omega.{arith}
use mathlib.Core.Path.{◌≡◌, refl, ◌∙◌, ap}
use mathlib.Core.Logic.{◌↔◌, ◌≢◌, ◌⊎◌, inl, inr}
use mathlib.Core.Bool.{not}
use mathlib.Core.List.{List, [], ◌∷◌}
use lib.ListN.{length}
use borrow.Author.Tests.{ne_eqb}
use Rattle.rules.specs.Limits.{first_refusal}
use Rattle.rules.specs.Request.{record_checks, request_verdict}
use Rattle.rules.specs.Checks.{number_of}
use Rattle.rules.specs.Answers.{gives, refuses, refused, stranded, priced, Tablet, tablet_number, route_of}
use Rattle.rules.proofs.AnswerLaws.{tablet_unique}
use Rattle.price.proofs.Bounds.{pricing_bounded}
use Rattle.rules.proofs.Order.{given, front_passed}
use Rattle.rules.specs.declared.refusal.Fault.TheVariants.{OddRoute}
use Rattle.rules.specs.Checks.{Accepted}

module _ {network request bytes : List ℕ} {number : ℕ} (so : Tablet network request bytes number) where
  -- The answer is a price or a refusal.
  price_or_refusal : ((price : ℕ) × (so.answer ≡ gives (price ∷ []))) ⊎ ((kind place : ℕ) × (so.answer ≡ refuses kind place))
  price_or_refusal = elim so.priced.pricing [
    | refused r v e m ↦ inr (number_of r.fault, r.place, e)
    | stranded j v h s l e m ↦ inr (37, j, e)
    | priced price v p z e ↦ inl (price, e)
  ]

  priced_below : {price : ℕ} → so.answer ≡ gives (price ∷ []) → number < first_refusal
  priced_below told =
      let same = so.tells ∙ ap tablet_number told in
      omega (arith, same, pricing_bounded network request (route_of bytes) _ so.priced.pricing told)

  refused_above : {kind place : ℕ} → so.answer ≡ refuses kind place → number ≡ first_refusal + kind
  refused_above told = so.tells ∙ ap tablet_number told

  -- A result below the first refusal is the price.
  pub tablet_value : (number < first_refusal) ↔ (so.answer ≡ gives (number ∷ []))
  tablet_value = (
    λ below. elim price_or_refusal [
      | inl (price, told) ↦ rw (so.tells ∙ ap tablet_number told) told
      | inr (kind, place, told) ↦ absurd (omega (arith, refused_above told))
    ],
    priced_below,
  )

  -- Any other result is the refusal's number, on top of the first.
  pub tablet_refused : (first_refusal ≤ number) ↔ ((kind place : ℕ) × (so.answer ≡ refuses kind place) × (number ≡ first_refusal + kind))
  tablet_refused = (
    λ above. elim price_or_refusal [
      | inl (price, told) ↦ absurd (omega (arith, priced_below told))
      | inr (kind, place, told) ↦ (kind, place, told, refused_above told)
    ],
    λ (kind, place, told, same). omega arith,
  )

  -- An odd number of route bytes is 38, and not 32, however many links they are.
  pub odd_before_long : request_verdict network request ≡ Accepted → length bytes % 2 ≢ 0 → number ≡ first_refusal + 38
  unfolding request_verdict
  odd_before_long accepted odd =
      tablet_unique so
      (record {
        answer = refuses 38 0;
        priced = record { meetings = []; pricing = refused _ (front_passed (record_checks network request) _ accepted ∙ given OddRoute 0 _ (ap not (ne_eqb _ _ odd))) refl refl };
        tells = refl;
      })
