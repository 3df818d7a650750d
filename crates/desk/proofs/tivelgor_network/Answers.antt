use native.Mathlib.Omega.{arith}
use mathlib.Core.Path.{ap}
use mathlib.Core.List.{[], ◌∷◌}
use Rattle.rules.specs.Answers.{outcome_of}
use Rattle.desk.proofs.Numbers.{network_refusal, network_sizes}
use Rattle.desk.proofs.tivelgor_network.Goals as goal

pub overflow_mul-result : goal.overflow_mul-result
overflow_mul-result c = omega (arith, network_sizes _ c.read_network-read.ensures c.in-Ok.is)

pub overflow_add-result : goal.overflow_add-result
overflow_add-result c = omega (arith, network_sizes _ c.read_network-read.ensures c.in-Ok.is)

pub refusal_told-requires : goal.refusal_told-requires
refusal_told-requires c =
    let read = c.read_network-read in
    ((network_refusal _ read.ensures).small _ _ (ap (λ v. outcome_of v (read.result.n ∷ read.result.m ∷ [])) c.in-Err.is)).1
