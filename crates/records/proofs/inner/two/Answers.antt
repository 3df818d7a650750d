-- Two bytes are the number of a byte and one byte more.
use native.Mathlib.Omega.{arith}
use native.Mathlib.Nat.{add-zero}
use Rattle.rules.specs.Numbers.{number}
use Rattle.records.proofs.inner.two.Goals as goal

pub returns : goal.returns
unfolding number
returns c = rw add-zero (omega arith)
