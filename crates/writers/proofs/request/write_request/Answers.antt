use mathlib.Core.Path.{◌∙◌, sym}
use Rattle.rules.specs.Writing.{request_number_checks}
use Rattle.rules.proofs.WriterLaws.{room_accepted}
use Rattle.rules.proofs.RequestWritingLaws.{value_accepted}
use Rattle.writers.proofs.request.write_request.Goals as goal

pub put_request-requires : goal.put_request-requires
put_request-requires c =
    let (passed, fits) = room_accepted (request_number_checks _ _) _ _ (sym c.request_verdict.ensures ∙ c.in_ok-request_verdict.was) in
    ((value_accepted _ _ passed).sound.riders, fits)
