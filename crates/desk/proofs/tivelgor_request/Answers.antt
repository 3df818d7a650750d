use mathlib.Core.Path.{ap}
use mathlib.Core.List.{[], ◌∷◌}
use Rattle.rules.specs.Request.{rider_count_of}
use Rattle.rules.specs.Answers.{outcome_of}
use Rattle.desk.proofs.Numbers.{request_refusal}
use Rattle.desk.proofs.tivelgor_request.Goals as goal

pub refusal_told-requires : goal.refusal_told-requires
refusal_told-requires c =
    let read = c.read_request-read in
    ((request_refusal _ _ read.ensures).small _ _ (ap (λ v. outcome_of v (rider_count_of read.result.request ∷ [])) c.in-Err.is)).1
