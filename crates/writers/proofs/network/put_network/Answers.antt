-- The links' numbers stand behind the head.
use native.Mathlib.Omega.{arith}
use Rattle.rules.specs.Numbers.{bytes_of}
use Rattle.rules.proofs.PuttingLaws.{put_then}
use Rattle.writers.proofs.network.put_network.Goals as goal

pub put_twos-requires : goal.put_twos-requires
unfolding bytes_of
put_twos-requires c =
    let head = c.put_network_head-end.ensures in
    omega (arith, head.ends, head.size, c.requires)

pub returns : goal.returns
returns c = put_then c.put_network_head-end.ensures c.put_twos.ensures
