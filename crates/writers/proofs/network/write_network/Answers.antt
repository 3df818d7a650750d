use mathlib.Core.Path.{◌∙◌, sym}
use Rattle.rules.specs.Writing.{network_number_checks}
use Rattle.rules.proofs.WriterLaws.{room_accepted}
use Rattle.rules.proofs.NetworkWritingLaws.{numbers_accepted}
use Rattle.writers.proofs.network.write_network.Goals as goal

pub put_network-requires : goal.put_network-requires
put_network-requires c =
    let (passed, fits) = room_accepted (network_number_checks _ _) _ _ (sym c.network_verdict.ensures ∙ c.in_ok-network_verdict.was) in
    ((numbers_accepted _ _ passed).whole, fits)
