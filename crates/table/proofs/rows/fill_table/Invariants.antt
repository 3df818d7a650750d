-- Invariant: the rows of the sets below `riders` are filled.
use Rattle.table.specs.Filling.{Filled}
use Rattle.table.proofs.rows.fill_table.Given as goal

abbrev pub invariant-loop-riders : goal.invariant-loop-riders
invariant-loop-riders l = Filled l.job.network l.job.request l.riders l.initial.table l.table
