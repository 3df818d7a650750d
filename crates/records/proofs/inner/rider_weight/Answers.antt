use Rattle.records.proofs.inner.rider_weight.Goals as goal

pub returns : goal.returns
returns c = rw c.rider_start.ensures at c.byte.ensures
