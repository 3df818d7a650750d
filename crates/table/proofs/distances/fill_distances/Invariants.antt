-- Invariant: the rows of the riders below j hold their walking distances.
use Rattle.table.specs.Filling.{WalkedRows}
use Rattle.table.proofs.distances.fill_distances.Given as goal

abbrev pub invariant-loop-j : goal.invariant-loop-j
invariant-loop-j l = WalkedRows l.job.network l.job.request l.j l.initial.distances l.distances
