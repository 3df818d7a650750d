use native.Mathlib.Omega.{arith}
use Rattle.spread.proofs.RelaxingLaws.{progress_none, next_link, relaxing_kept}
use Rattle.spread.proofs.engine.round.Goals as goal

pub loop-k-init : goal.loop-k-init
loop-k-init g c = progress_none (λ i h. absurd (omega arith))

pub relax-changed-requires-clause-room : goal.relax-changed-requires-clause-room
relax-changed-requires-clause-room g c = omega (arith, (relaxing_kept c.loop-k.invariant.relaxing).size)

pub loop-k-preserved : goal.loop-k-preserved
loop-k-preserved g c = next_link c.loop-k.invariant c.relax-changed.ensures
