use native.Mathlib.Omega.{arith}
use Rattle.std.proofs.lemmas.List.{set-get_or}
use Rattle.search.proofs.StepLaws.{step_small}
use Rattle.search.proofs.WriteLaws.{writing_more, writing_done, writing_full}
use Rattle.search.proofs.bus.Bus.write_plan.Goals as goal

pub returns-in_default : goal.returns-in_default
returns-in_default c =
    rw set-get_or (writing_done c.requires c.loop-place.invariant c.in_default.ensures)

pub overflow_cast-place : goal.overflow_cast-place
overflow_cast-place c = omega (arith, step_small c.loop-place.bus c.in-Some.ensures.lowest.tight)

pub loop-place-preserved : goal.loop-place-preserved
loop-place-preserved c = writing_more c.requires c.loop-place.invariant c.in-Some.ensures

pub returns : goal.returns
returns c = writing_full c.requires c.loop-place.invariant (omega arith)
