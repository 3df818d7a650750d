use native.Mathlib.Omega.{arith}
use Rattle.table.proofs.StartLaws.{seeing_more, seeing_all}
use Rattle.table.proofs.tables.Tables.least_meeting.Goals as goal

pub loop-left-preserved : goal.loop-left-preserved
loop-left-preserved c =
    rw (c.min-least.ensures, c.saturating_add.ensures) (seeing_more c.requires.2 c.requires.1 c.loop-left.invariant c.first_meeting-next.ensures)

pub returns : goal.returns
returns c =
    seeing_all c.requires.2 c.requires.1 c.requires.0 (omega (arith, c.loop-left-test.false)) c.loop-left.invariant
