use Rattle.rules.proofs.OpeningLaws.{opening_accepted}
use Rattle.rules.proofs.SoundNetworkLaws.{sizes_accepted}
use Rattle.rules.specs.Network.{network_opening}
use mathlib.Core.Path.{sym, ◌∙◌}
use native.Mathlib.Nat.{le_of_eq}
use Rattle.records.proofs.network.network_verdict.Goals as goal

pub sizes_verdict-requires : goal.sizes_verdict-requires
sizes_verdict-requires c = (opening_accepted network_opening _ (sym c.opening_verdict.ensures ∙ c.in_ok-opening_verdict.was)).long

pub links_verdict-requires : goal.links_verdict-requires
links_verdict-requires c = le_of_eq (sym (sizes_accepted _ (sym c.sizes_verdict.ensures ∙ c.in_ok-sizes_verdict.was)).whole)
