-- One link: closed to the bus; or its start is no higher than its end and the step, or is lowered to that.
use native.Mathlib.Omega.{arith}
use Rattle.spread.proofs.RelaxingLaws.{progress_none, progress_lowered}
use Rattle.spread.proofs.LinkLaws.{drive_closed, drive_arc, drive_loose}
use Rattle.spread.proofs.drives.DrivesLinks.relax.Goals as goal

pub returns-then-cost-ge-CLOSED : goal.returns-then-cost-ge-CLOSED
returns-then-cost-ge-CLOSED c = progress_none (drive_closed c.args.row.now c.drive-cost.ensures.value (omega arith))

pub returns : goal.returns
returns c =
    let arc = drive_arc c.requires.exists c.from.ensures.value c.to.ensures.value (omega arith) c.args.self.now.weight c.drive-cost.ensures.value in
    progress_lowered (omega arith) (_, arc) (drive_loose c.args.row.now arc) (rw c.packed_step-step.ensures at c.shorten.ensures)
