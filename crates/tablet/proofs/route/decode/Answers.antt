use native.Mathlib.Omega.{arith}
use Rattle.tablet.proofs.RouteLaws.{decoded_route}
use Rattle.tablet.proofs.route.decode.Goals as goal

pub returns : goal.returns
returns c = decoded_route _ (omega arith) (λ i h. c.loop-i.invariant i (omega arith))
