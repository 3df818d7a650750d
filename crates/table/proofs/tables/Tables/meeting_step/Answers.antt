-- None where the rider cannot walk there, else the step packed.
use mathlib.Core.Path.{◌∙◌}
use Rattle.table.proofs.MeetingLaws.{cannot_meet, can_meet}
use Rattle.table.proofs.tables.Tables.meeting_step.Goals as goal

pub returns-then-distance : goal.returns-then-distance
returns-then-distance c = rw (← c.job.view_is) (cannot_meet _ _ (rw c.place.ensures.value at c.if-distance.true))

pub returns : goal.returns
returns c = rw (← c.job.view_is) (c.packed_step.ensures ∙ rw (← c.place.ensures.value) (can_meet _ _ c.if-distance.false))
