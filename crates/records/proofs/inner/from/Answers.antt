-- A link begins with the node that it starts at.
use native.Mathlib.Nat.{add-zero}
use Rattle.records.proofs.inner.from.Goals as goal

pub returns : goal.returns
returns c = rw add-zero at c.link_number.ensures
