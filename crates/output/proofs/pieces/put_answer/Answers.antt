use native.Mathlib.Omega.{arith}
use mathlib.Core.Path.{ap}
use Rattle.std.proofs.lemmas.List.{length-take-le}
use Rattle.rules.specs.Request.{source}
use Rattle.rules.specs.Answers.{planned_outcome}
use Rattle.output.proofs.AnswerLaws.{put_refused, put_planned, steps_room}
use Rattle.output.proofs.pieces.put_answer.Goals as goal

pub returns-in_default : goal.returns-in_default
returns-in_default c =
    let refused = c.unwrap_err-refusal.ensures in
    put_refused c.args.network.now c.args.distances.now c.args.steps.now (source c.args.request.now) (planned_outcome c.args.answer)
    (ap planned_outcome refused) (rw (c.from.ensures, c.number-number.ensures) at c.refused_line.ensures) c.put_line.ensures.put

pub request_source-start-requires : goal.request_source-start-requires
request_source-start-requires c = omega (arith, (c.requires.found _ _ (ap planned_outcome c.in-Ok.is)).long)

pub slice_bounds-put_steps-end : goal.slice_bounds-put_steps-end
slice_bounds-put_steps-end c =
    omega (arith, length-take-le c.in-Ok.plan.count c.args.steps.now (c.requires.found _ _ (ap planned_outcome c.in-Ok.is)).within)

pub put_steps-requires : goal.put_steps-requires
put_steps-requires c =
    let found = c.requires.found _ _ (ap planned_outcome c.in-Ok.is) in
    record {
      rides = rw c.request_source-start.ensures.value found.rides;
      distances = c.requires.room;
      room =
          steps_room c.args.steps.now found.within c.requires.few
          c.put_line-end.ensures.few c.put_line-end.ensures.put (omega arith);
    }

pub returns : goal.returns
returns c =
    put_planned c.args.network.now c.args.distances.now c.args.steps.now
    (source c.args.request.now) (planned_outcome c.args.answer)
    (ap planned_outcome c.in-Ok.is) c.ok_line.ensures c.put_line-end.ensures.put
    c.request_source-start.ensures.value c.put_steps.ensures
