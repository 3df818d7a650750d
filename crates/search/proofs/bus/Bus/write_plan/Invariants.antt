-- Invariant: the first steps are written, and whatever finishes first from where the bus stands, put behind them, finishes first from the
-- source.
use Rattle.search.specs.Steps.{Writing}
use Rattle.search.proofs.bus.Bus.write_plan.Given as goal

abbrev pub invariant-loop-place : goal.invariant-loop-place
invariant-loop-place l = Writing l.fn.self.tables.now l.initial.steps l.bus l.place-index l.steps
