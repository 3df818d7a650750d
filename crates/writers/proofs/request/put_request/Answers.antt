-- The riders stand behind the head.
use native.Mathlib.Omega.{arith}
use Rattle.rules.specs.Numbers.{bytes_of}
use Rattle.rules.proofs.PuttingLaws.{put_then}
use Rattle.writers.proofs.request.put_request.Goals as goal

pub put_riders-requires : goal.put_riders-requires
unfolding bytes_of
put_riders-requires c =
    let head = c.put_head-end.ensures in
    let asked = c.requires in
    (asked.0, omega (arith, head.ends, head.size, asked.1))

pub returns : goal.returns
returns c = put_then c.put_head-end.ensures c.put_riders.ensures
