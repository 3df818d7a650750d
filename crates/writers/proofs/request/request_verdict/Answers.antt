use mathlib.Core.Path.{◌∙◌, sym}
use native.Mathlib.Omega.{arith}
use Rattle.rules.proofs.RequestWritingLaws.{value_accepted}
use Rattle.writers.proofs.request.request_verdict.Goals as goal

pub rider_start-requires : goal.rider_start-requires
rider_start-requires c =
    let so = value_accepted _ _ (sym c.numbers_verdict.ensures ∙ c.in_ok-numbers_verdict.was) in
    omega (arith, so.sound.riders)
