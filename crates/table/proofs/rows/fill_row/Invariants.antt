-- Invariant: the nodes below v have their starts in the row.
use Prim.Native.Nat.{ℕ, ◌<◌}
use lib.ListN.{get_or}
use Rattle.rules.specs.Rooms.{no_finish}
use Rattle.least.specs.Least.{Least}
use Rattle.finish.specs.Packed.{Ends}
use Rattle.table.proofs.rows.fill_row.Given as goal

abbrev pub invariant-loop-v : goal.invariant-loop-v
invariant-loop-v l = (u : ℕ) → u < l.v → Least no_finish (Ends l.job.network l.job.request l.riders u) (get_or l.row u 0)
