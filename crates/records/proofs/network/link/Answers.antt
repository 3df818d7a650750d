-- A link below the m that was read lies within the record; any other gets the empty part.
use Prim.Native.Nat.{◌+◌, ◌≤◌, ◌<◌}
use native.Mathlib.Omega.{arith}
use mathlib.Core.Path.{◌≡◌, refl}
use mathlib.Core.Bool.{true, false}
use lib.ListN.{length}
use borrow.Author.Tests.{le-ltb, lt-ltb}
use Rattle.rules.specs.Network.{network_of, has_link, link_start}
use Rattle.records.proofs.NetworkLaws.{link_fits, part_of}
use Rattle.records.proofs.network.link.Goals as goal
use Rattle.records.proofs.network.link.Goals.{Else-m-k}

pub returns-then-m-k : goal.returns-then-m-k
returns-then-m-k c =
    let start = c.args in
    let read = c.read_network-m in
    let absent : has_link start.network.now start.k ≡ false = rw (← read.ensures) (le-ltb start.k read.result.m (omega arith)) in
    rw absent (part_of _ 0 refl)

below : (c : Else-m-k) → c.args.k < (network_of c.args.network.now).m
below c = rw (← c.read_network-m.ensures) (omega arith)

fits : (c : Else-m-k) → link_start c.args.k + 8 ≤ length c.args.network.now
fits c = link_fits _ _ (below c)

pub returns : goal.returns
returns c =
    let start = c.args in
    let known : has_link start.network.now start.k ≡ true = lt-ltb _ _ (below (goal.at.returns c).Else-m-k) in
    rw known (part_of _ 8 c.link_start-start.ensures)

pub link_start-start-requires : goal.link_start-start-requires
link_start-start-requires c = omega (arith, fits (goal.at.link_start-start-requires c).Else-m-k)

pub overflow_add-end : goal.overflow_add-end
overflow_add-end c = omega (arith, fits (goal.at.overflow_add-end c).Else-m-k)

pub slice_bounds-result-end-2 : goal.slice_bounds-result-end-2
slice_bounds-result-end-2 c = omega (arith, fits (goal.at.slice_bounds-result-end-2 c).Else-m-k)
