use Rattle.std.proofs.lemmas.List.{take_min}
use Rattle.rules.specs.Program.{most_input}
use Rattle.output.proofs.PutLaws.{printed_whole}
use Rattle.output.proofs.write_text.Goals as goal

pub returns : goal.returns
returns c =
    printed_whole c.args.input.now c.in-Some.ensures.cases
    (rw (c.min.ensures, take_min most_input c.args.input.now) at c.write_taken.ensures)
