use mathlib.Core.Path.{◌≡◌, refl}
use mathlib.Core.Bool.{false}
use lib.Dec.{ltb}
use lib.ListN.{length, take}
use Rattle.std.proofs.lemmas.Result.{err_from_is_err_and}
use Rattle.rules.specs.Request.{request_value, rider_count_of}
use Rattle.rules.proofs.Order.{check_passed}
use Rattle.price.proofs.EntryLaws.{unwritten, priced_behind, priced_told}
use Rattle.price.proofs.price.Goals as goal
use Rattle.price.proofs.price.Goals.{After-price_route}

-- There is room for the meeting positions.
room : (c : After-price_route) → ltb (length c.args.meeting.now) (rider_count_of (request_value c.args.request.now)) ≡ false
room c = rw c.in_ok-request.ensures.value.0 at (check_passed _ _ c.check.ensures c.in_ok-check.was)

pub returns-in_err-priced : goal.returns-in_err-priced
returns-in_err-priced c =
    let p = err_from_is_err_and c.from_residual-in_err-priced.result c.from_residual-in_err-priced.ensures.1 in
    rw (p.1, p.2)
    (unwritten
    (priced_behind _ _ c.in_ok-network.ensures.value c.in_ok-request.ensures.value.0 c.in_ok-network.ensures.verdict c.in_ok-request.ensures.verdict
    (room (goal.at.returns-in_err-priced c).After-price_route) c.in_err-priced.ensures))

pub returns : goal.returns
returns c =
    let pricing = c.in_ok-priced.ensures in
    record {
      meetings = take c.in_ok-request.request.rider_count c.in_ok-priced.priced.meetings;
      pricing =
          priced_behind _ _ c.in_ok-network.ensures.value c.in_ok-request.ensures.value.0 c.in_ok-network.ensures.verdict c.in_ok-request.ensures.verdict
          (room (goal.at.returns c).After-price_route) pricing;
      written = rw (c.copy_from_slice.ensures.after, (priced_told pricing).2) refl;
    }
