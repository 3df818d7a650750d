use mathlib.Core.Path.{refl}
use native.Mathlib.Omega.{arith}
use Rattle.spread.specs.Relaxing.{still}
use Rattle.spread.proofs.RelaxingLaws.{relaxing_kept, relaxing_then, spreads}
use Rattle.spread.proofs.engine.spread.Goals as goal

pub loop-init : goal.loop-init
loop-init g c = still refl

pub round-requires : goal.round-requires
round-requires g c = omega (arith, (relaxing_kept c.loop.invariant).size)

pub loop-preserved : goal.loop-preserved
loop-preserved g c = relaxing_then c.loop.invariant c.round.ensures.relaxing

pub returns : goal.returns
returns g c =
    let it = g.L.Links in
    let laws = g.met.L.Links in
    let (same, relaxed) = c.round.ensures.quiet c.loop-test.false in
    spreads {Link = it.arcs _} (laws.inside _) c.requires.room (λ u h. c.requires.capped u)
    (relaxing_then c.loop.invariant c.round.ensures.relaxing)
    (λ k u v w link. relaxed k (laws.exist _ k u v w link) u v w link)
