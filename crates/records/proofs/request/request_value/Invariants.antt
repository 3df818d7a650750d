-- Invariant: of each array the first j places are those of the riders, and the others 0.
use mathlib.Core.Path.{◌≡◌}
use Rattle.rules.specs.Request.{rider_node, rider_weight, seven_places}
use Rattle.records.proofs.request.request_value.Given as goal

abbrev pub invariant-loop-j : goal.invariant-loop-j
invariant-loop-j l = (l.nodes ≡ seven_places (rider_node l.request) l.j) × (l.weights ≡ seven_places (rider_weight l.request) l.j)
