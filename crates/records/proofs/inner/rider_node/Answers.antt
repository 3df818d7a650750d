use Rattle.records.proofs.inner.rider_node.Goals as goal

pub returns : goal.returns
returns c = rw c.rider_start.ensures at c.two.ensures
