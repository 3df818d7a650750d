use mathlib.Core.Path.{refl, sym}
use Rattle.std.proofs.lemmas.Result.{err_from_is_err_and}
use Rattle.rules.specs.Answers.{refused}
use Rattle.price.proofs.inner.price_route.Goals as goal

pub returns-in_err-read : goal.returns-in_err-read
returns-in_err-read c =
    let p = err_from_is_err_and c.from_residual.result c.from_residual.ensures.1 in
    rw (p.1, p.2) (refused _ (sym c.in_err-read.ensures.verdict) refl refl)

pub returns : goal.returns
returns c =
    let (job, links) = c.in_ok-read.ensures.value in
    rw (← c.in_ok-read.ensures.verdict) (rw (job, links) at c.meet_riders.ensures)
