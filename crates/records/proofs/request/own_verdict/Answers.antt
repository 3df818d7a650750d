use Rattle.rules.proofs.OpeningLaws.{opening_accepted}
use Rattle.rules.proofs.SoundRequestLaws.{count_accepted}
use Rattle.rules.specs.Request.{request_opening}
use mathlib.Core.Path.{sym, ◌∙◌}
use native.Mathlib.Nat.{le_of_eq}
use Rattle.records.proofs.request.own_verdict.Goals as goal

pub count_verdict-requires : goal.count_verdict-requires
count_verdict-requires c = (opening_accepted request_opening _ (sym c.opening_verdict.ensures ∙ c.in_ok-opening_verdict.was)).long

pub nodes_verdict-requires : goal.nodes_verdict-requires
nodes_verdict-requires c = le_of_eq (sym (count_accepted _ (sym c.count_verdict.ensures ∙ c.in_ok-count_verdict.was)).whole)

pub weights_verdict-requires : goal.weights_verdict-requires
weights_verdict-requires c = le_of_eq (sym (count_accepted _ (sym c.count_verdict.ensures ∙ c.in_ok-count_verdict.was)).whole)
