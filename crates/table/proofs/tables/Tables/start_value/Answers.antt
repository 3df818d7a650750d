use native.Mathlib.Omega.{arith}
use mathlib.Core.Path.{refl}
use Rattle.table.proofs.StartLaws.{arrived}
use Rattle.table.proofs.tables.Tables.start_value.Goals as goal

pub returns-then-v-job : goal.returns-then-v-job
returns-then-v-job c =
    rw (← c.job.view_is) (arrived (rw (← c.job.view_is) at c.requires.1.set) (omega arith) (λ e. refl) (λ g. absurd (g c.if-v-job.true)))

pub returns : goal.returns
returns c =
    rw (← c.job.view_is) (arrived (rw (← c.job.view_is) at c.requires.1.set) (omega arith) (λ e. absurd (c.if-v-job.false e)) (λ g. refl))
