use Rattle.desk.proofs.Places.{network_written_small}
use Rattle.desk.proofs.Numbers.{write_refusal}
use Rattle.desk.proofs.writing.tivelgor_write_network.Goals as goal

pub length_told-requires : goal.length_told-requires
length_told-requires c = write_refusal (network_written_small _ _ _) c.write_network.ensures
