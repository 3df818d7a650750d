use Rattle.search.proofs.PlanLaws.{answer_24, ready, answer_plan}
use Rattle.search.proofs.inner.plan.Goals as goal

pub returns-in_default : goal.returns-in_default
returns-in_default c =
    rw c.at.ensures (answer_24 c.args.network.now.sound c.requires.0 c.fill_distances.ensures c.fill_table.ensures c.in_default.ensures)

pub write_plan-requires : goal.write_plan-requires
write_plan-requires c = ready c.in-Some.ensures _ c.fill_distances.ensures c.fill_table.ensures c.requires.1.steps

pub returns : goal.returns
returns c = answer_plan c.in-Some.ensures _ c.fill_distances.ensures c.fill_table.ensures c.write_plan.ensures c.value-best.ensures
