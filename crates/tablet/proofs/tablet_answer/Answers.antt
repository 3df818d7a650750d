use Rattle.std.proofs.lemmas.Result.{err_from_is_err_and}
use Rattle.rules.proofs.Order.{check_passed}
use Rattle.price.proofs.EntryLaws.{priced_behind}
use Rattle.tablet.proofs.tablet_answer.Goals as goal
use Rattle.tablet.proofs.tablet_answer.Goals.{After-price_route}

pub returns-in_err-priced : goal.returns-in_err-priced
returns-in_err-priced c =
    let p = err_from_is_err_and c.from_residual-in_err-priced.result c.from_residual-in_err-priced.ensures.1 in
    rw (p.1, p.2)
    (record {
      meetings = _;
      pricing =
          priced_behind _ _ c.in_ok-network.ensures.value c.in_ok-request.ensures.value.0 c.in_ok-network.ensures.verdict c.in_ok-request.ensures.verdict
          (check_passed _ _ c.check.ensures c.in_ok-check.was) (rw c.decode.ensures at c.in_err-priced.ensures);
    })

pub returns : goal.returns
returns c =
    record {
      meetings = _;
      pricing =
          priced_behind _ _ c.in_ok-network.ensures.value c.in_ok-request.ensures.value.0 c.in_ok-network.ensures.verdict c.in_ok-request.ensures.verdict
          (check_passed _ _ c.check.ensures c.in_ok-check.was) (rw c.decode.ensures at c.in_ok-priced.ensures);
    }
