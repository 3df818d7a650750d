-- None everywhere, 0 at the start, and then the engine.
use mathlib.Core.Path.{refl}
use native.Mathlib.Omega.{arith}
use Rattle.walk.proofs.StartLaws.{filled, walked}
use Rattle.walk.proofs.inner.walk_from.Goals as goal

pub returns : goal.returns
returns c =
    let clear = filled (omega arith) (c.fill.ensures.after (λ y e. e)) in
    walked c.args.network.now.sound c.requires.0 (rw c.node_count-n.ensures.value at clear) (rw c.node_count-n.ensures.value at c.spread_walks.ensures) refl
