-- The length stands behind the version.
use native.Mathlib.Omega.{arith}
use Rattle.rules.proofs.PuttingLaws.{put_then}
use Rattle.writers.proofs.PieceLaws.{put_end}
use Rattle.writers.proofs.inner.put_opening.Goals as goal

pub put_number-requires : goal.put_number-requires
put_number-requires c =
    let version = c.put_number-version_end.ensures in
    omega (arith, put_end 1 _ version, version.size)

pub returns : goal.returns
returns c = put_then c.put_number-version_end.ensures c.put_number.ensures
