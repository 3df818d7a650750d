use Prim.Native.Nat.{◌+◌, ◌-◌}
use mathlib.Core.Path.{◌≡◌, refl}
use native.Mathlib.Omega.{arith}
use borrow.Author.Rules.{rules}
use Rattle.writers.proofs.FillLaws.{filled_none, filled_more, filled_all}
use Rattle.writers.proofs.inner.put_number.Goals as goal

pub loop-i-init : goal.loop-i-init
loop-i-init c = filled_none refl (search rules)

pub loop-i-preserved : goal.loop-i-preserved
loop-i-preserved c =
    let last : c.args.at + (c.loop-i.i - 1) ≡ c.args.at + c.loop-i.i - 1 = omega arith in
    rw last (filled_more c.loop-i.invariant (omega arith))

pub returns : goal.returns
returns c = filled_all c.loop-i.invariant refl (omega (arith, c.loop-i.invariant.from))
