use native.Mathlib.Omega.{arith}
use mathlib.Core.Path.{refl}
use Rattle.search.proofs.StepLaws.{trying_more, trying_all}
use Rattle.search.proofs.bus.Bus.next_meeting.Goals as goal

pub returns-then-saturating_add-here : goal.returns-then-saturating_add-here
returns-then-saturating_add-here c =
    let next = c.first_meeting-next.ensures in
    let tried = c.loop-left.invariant in
    record {
      meets = (
        tried.of.of _ next.lowest.has,
        omega (arith, c.args.self.now.stands.finite, next.step, next.rest, c.value-here.ensures, c.saturating_add.ensures),
      );
      lowest = λ j low met. tried.tried j (next.lowest.first j low) met;
      leaves = next.still;
      stays = refl;
      same = refl;
    }

pub loop-left-preserved : goal.loop-left-preserved
loop-left-preserved c =
    let next = c.first_meeting-next.ensures in
    rw next.leaves
    (trying_more c.loop-left.invariant _ next.lowest
    (λ e. c.if-saturating_add-here.false (omega (arith, e, c.args.self.now.stands.finite, next.step, next.rest, c.value-here.ensures, c.saturating_add.ensures))))

pub returns : goal.returns
returns c = trying_all c.loop-left.invariant (omega (arith, c.loop-left-test.false))
