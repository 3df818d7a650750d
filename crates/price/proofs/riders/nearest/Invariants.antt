-- Invariant: of the first i + 1 positions the spot is the earliest with the least distance.
use Prim.Native.Nat.{◌+◌}
use lib.ListN.{get_or}
use Rattle.rules.specs.Routes.{node_at}
use Rattle.price.specs.Near.{Sofar}
use Rattle.price.proofs.riders.nearest.Given as goal

abbrev pub invariant-loop-i : goal.invariant-loop-i
invariant-loop-i l =
    Sofar (λ position. get_or l.distances (node_at l.drive.job.now.network l.drive.job.now.request.source l.drive.links.now position) 0) (l.i + 1) l.spot
