use Prim.Native.Nat.{ℕ, ◌<◌}
use native.Mathlib.Omega.{arith}
use lib.ListN.{get_or}
use Rattle.rules.specs.Network.{node_count}
use Rattle.rules.specs.Rooms.{no_finish}
use Rattle.least.specs.Least.{Least}
use Rattle.finish.specs.Packed.{Ends}
use Rattle.finish.proofs.Rows.{row_least}
use Rattle.table.proofs.TableLaws.{below_set}
use Rattle.table.proofs.rows.fill_row.Goals as goal

pub loop-v-preserved : goal.loop-v-preserved
loop-v-preserved c =
    let job = c.args.tables.now.job.now in
    below_set (λ (u x : ℕ). Least no_finish (Ends job.network job.request c.args.riders u) x) c.loop-v.row c.loop-v.v
    (omega arith) c.loop-v.invariant c.start_value.ensures

pub returns : goal.returns
returns c =
    let job = c.args.tables.now.job.now in
    let starts : (u : ℕ) → u < node_count job.network → Least no_finish (Ends job.network job.request c.args.riders u) (get_or c.loop-v.row u 0) =
    λ u h. c.loop-v.invariant u (omega arith) in
    rw (← c.job.view_is) (λ v h. row_least c.job.inside.network.now.sound (rw (← c.job.view_is) at starts) c.spread_drives.ensures h)
