-- Where the network of an input ends.
use Prim.Native.Nat.{ℕ, ◌≤◌}
use native.Mathlib.Omega.{arith}
use mathlib.Core.Path.{◌≡◌, refl}
use mathlib.Core.Bool.{Bool, true, false, ◌||◌, cond}
use mathlib.Core.List.{List}
use lib.ListN.{length}
use lib.Dec.{ltb}
use borrow.Author.Tests.{ltb-false}
use Rattle.rules.specs.Network.{stated_length}
use Rattle.rules.specs.Program.{network_size}
use Rattle.rules.proofs.TestLaws.{neither}

-- the network lies within the input
pub network_size_within : (s : List ℕ) → network_size s ≤ length s
network_size_within s = go (ltb (length s) 5 || ltb (length s) (stated_length 4 s)) refl
  where
    go : (short : Bool) → (ltb (length s) 5 || ltb (length s) (stated_length 4 s)) ≡ short → cond short (length s) (stated_length 4 s) ≤ length s
    go true e = omega arith
    go false e =
        ltb-false (length s) (stated_length 4 s) (neither (ltb (length s) 5) (ltb (length s) (stated_length 4 s)) e).1
