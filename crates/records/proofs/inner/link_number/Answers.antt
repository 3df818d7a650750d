use Rattle.records.proofs.inner.link_number.Goals as goal

pub returns : goal.returns
returns c = rw (← c.link_start.ensures) c.two.ensures
