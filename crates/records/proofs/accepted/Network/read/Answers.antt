use mathlib.Core.Path.{sym, ◌∙◌}
use Rattle.rules.proofs.SoundNetworkLaws.{network_sound}
use Rattle.records.proofs.accepted.Network.read.Goals as goal

pub invariant_of-result : goal.invariant_of-result
invariant_of-result c = (network_sound _ (sym c.network_verdict.ensures ∙ c.in_ok-network_verdict.was), tt)
