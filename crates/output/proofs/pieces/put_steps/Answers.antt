use Rattle.output.proofs.AnswerLaws.{step_takes, stepping_done}
use Rattle.output.proofs.pieces.put_steps.Goals as goal

pub step_line-requires-clause-takes : goal.step_line-requires-clause-takes
step_line-requires-clause-takes c = step_takes c.loop-number.invariant c.loop-number-test.true c.from-step.ensures

pub node_after-node-requires : goal.node_after-node-requires
node_after-node-requires c = step_takes c.loop-number.invariant c.loop-number-test.true c.from-step.ensures

pub returns : goal.returns
returns c = stepping_done c.loop-number.invariant c.loop-number-test.false
