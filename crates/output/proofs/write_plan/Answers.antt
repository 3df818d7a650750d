use Rattle.output.proofs.AnswerLaws.{answered}
use borrow.Author.Rules.{rules}
use Rattle.output.proofs.write_plan.Goals as goal

pub put_answer-requires : goal.put_answer-requires
put_answer-requires c = answered c.args.request.now (search rules) (search rules) c.search-answer.ensures
