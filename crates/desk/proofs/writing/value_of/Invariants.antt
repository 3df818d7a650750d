-- Invariant: of each array the first j places are those of the list, and the others 0.
use Prim.Native.Nat.{◌+◌}
use mathlib.Core.Path.{◌≡◌}
use lib.ListN.{get_or}
use Rattle.rules.specs.Request.{seven_places}
use Rattle.desk.proofs.writing.value_of.Given as goal

abbrev pub invariant-loop-j : goal.invariant-loop-j
invariant-loop-j l =
    (l.nodes ≡ seven_places (λ i. get_or l.numbers (4 + i) 0) l.j) × (l.weights ≡ seven_places (λ i. get_or l.numbers (11 + i) 0) l.j)
