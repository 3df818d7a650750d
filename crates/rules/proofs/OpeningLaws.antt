-- What both records open with: accepted exactly when it is as it should be.
use Prim.Native.Nat.{ℕ, ◌≤◌}
use mathlib.Core.Path.{◌≡◌}
use mathlib.Core.List.{List}
use lib.ListN.{length}
use borrow.Author.Tests.{ltb-false, le-ltb, eq-eqb}
use Rattle.rules.specs.declared.refusal.Opening.{Opening}
use Rattle.rules.specs.Checks.{first_of, Accepted}
use Rattle.rules.specs.Network.{version_of, stated_length, opening_checks}
use Rattle.rules.proofs.Order.{accepted_head}
use Rattle.rules.proofs.TestLaws.{same, within, not_outside}

-- what a record opens with
pub record Opened (latest size : ℕ) (s : List ℕ) : Type 0 where
  pub long : 9 ≤ length s
  pub version : (1 ≤ version_of s) × (version_of s ≤ latest)
  pub stated : stated_length size s ≡ length s

pub opening_accepted : (opens : Opening) (s : List ℕ) → first_of (opening_checks opens s) ≡ Accepted
    → Opened opens.latest opens.size s
unfolding opening_checks
opening_accepted opens s e =
    let (a, e₁) = accepted_head _ _ e in
    let (b, e₂) = accepted_head _ _ e₁ in
    let (c, e₃) = accepted_head _ _ e₂ in
    record { long = ltb-false _ _ a; version = within 1 opens.latest (version_of s) b; stated = same _ _ c }

pub opened_accepts : (opens : Opening) (s : List ℕ) → Opened opens.latest opens.size s → first_of (opening_checks opens s) ≡ Accepted
unfolding opening_checks first_of
opened_accepts opens s so =
    simp (le-ltb _ _ so.long, not_outside _ _ _ so.version.0 so.version.1, eq-eqb _ _ so.stated)
