use mathlib.Core.Path.{◌≡◌, sym, ◌∙◌}
use Rattle.std.proofs.lemmas.Result.{err_from_is_err_and}
use Rattle.rules.specs.Checks.{first_of}
use Rattle.rules.specs.Rooms.{lent}
use Rattle.rules.proofs.RoomLaws.{rooms_accepted}
use Rattle.search.proofs.EntryLaws.{rooms_of, network_refused, request_refused, rooms_refused, searched}
use Rattle.search.proofs.search.Goals as goal
use Rattle.search.proofs.search.Goals.{After-rooms_verdict}

pub returns-in_err-network : goal.returns-in_err-network
returns-in_err-network c =
    let p = err_from_is_err_and c.from_residual.result c.from_residual.ensures.1 in
    rw (p.1, p.2) (network_refused _ _ _ c.in_err-network.ensures.verdict)

pub returns-in_err-request : goal.returns-in_err-request
returns-in_err-request c =
    let p = err_from_is_err_and c.from_residual-in_err-request.result c.from_residual-in_err-request.ensures.1 in
    rw (p.1, p.2) (request_refused _ _ _ c.in_ok-network.ensures.verdict (rw c.in_ok-network.ensures.value at c.in_err-request.ensures.verdict))

rooms : (c : After-rooms_verdict)
    → c.rooms_verdict.result ≡ first_of (rooms_of c.args.network.now c.args.request.now (lent c.args.distances.now c.args.table.now c.args.steps.now))
rooms c = rw (c.node_count-n.ensures.value, c.in_ok-network.ensures.value, c.in_ok-request.ensures.value.0) at c.rooms_verdict.ensures

pub returns-in_err-rooms_verdict : goal.returns-in_err-rooms_verdict
returns-in_err-rooms_verdict c =
    let p = err_from_is_err_and c.from_residual-in_err-rooms_verdict.result c.from_residual-in_err-rooms_verdict.ensures.1 in
    rw (p.1, p.2)
    (rooms_refused _ _ _ c.in_ok-network.ensures.verdict (rw c.in_ok-network.ensures.value at c.in_ok-request.ensures.verdict)
    (sym c.in_err-rooms_verdict.was ∙ rooms (goal.at.returns-in_err-rooms_verdict c).After-rooms_verdict))

pub plan-requires : goal.plan-requires
plan-requires c =
    (c.in_ok-request.ensures.value.1, rooms_accepted _ _ _ (rw c.node_count-n.ensures.value at (sym c.rooms_verdict.ensures ∙ c.in_ok-rooms_verdict.was)))

pub returns : goal.returns
returns c =
    searched _ _ _ c.in_ok-network.ensures.verdict (rw c.in_ok-network.ensures.value at c.in_ok-request.ensures.verdict)
    (sym c.in_ok-rooms_verdict.was ∙ rooms (goal.at.returns c).After-rooms_verdict)
    (rw (c.in_ok-network.ensures.value, c.in_ok-request.ensures.value.0) at c.plan.ensures)
