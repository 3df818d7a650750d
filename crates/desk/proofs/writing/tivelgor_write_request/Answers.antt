-- A list of another length is refused at once; of any other, what is said of its value is said of the list.
use mathlib.Core.Path.{ap}
use mathlib.Core.Bool.{not}
use borrow.Author.Tests.{eq-eqb, ne_eqb}
use Rattle.rules.specs.Answers.{number_outcome}
use Rattle.rules.specs.declared.refusal.Fault.TheVariants.{GivenNumber}
use Rattle.rules.proofs.Order.{given, passed}
use Rattle.rules.proofs.WriterLaws.{writing_refused}
use Rattle.desk.proofs.Places.{request_written_small}
use Rattle.desk.proofs.Numbers.{write_refusal}
use Rattle.desk.proofs.writing.tivelgor_write_request.Goals as goal

pub returns-then-request-ne-VALUE_NUMBERS : goal.returns-then-request-ne-VALUE_NUMBERS
returns-then-request-ne-VALUE_NUMBERS c =
    record {
      answer = _;
      written = writing_refused (given GivenNumber 0 _ (ap not (ne_eqb _ _ c.if-request-ne-VALUE_NUMBERS.true)));
      tells = rw c.at.ensures at c.refusal_told.ensures;
    }

pub length_told-requires : goal.length_told-requires
length_told-requires c = write_refusal (request_written_small _ _ _) c.write_request.ensures

pub returns : goal.returns
returns c =
    record {
      answer = number_outcome c.write_request.result;
      written = rw (passed GivenNumber 0 _ (ap not (eq-eqb _ _ c.if-request-ne-VALUE_NUMBERS.false)), ← c.value_of.ensures) c.write_request.ensures;
      tells = c.length_told.ensures;
    }
