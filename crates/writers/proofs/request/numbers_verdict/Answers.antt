use mathlib.Core.Path.{◌∙◌, sym}
use Rattle.rules.proofs.RequestWritingLaws.{few_riders}
use Rattle.writers.proofs.request.numbers_verdict.Goals as goal

pub nodes_verdict-requires : goal.nodes_verdict-requires
nodes_verdict-requires c = few_riders _ _ (sym c.value_verdict.ensures ∙ c.in_ok-value_verdict.was)
