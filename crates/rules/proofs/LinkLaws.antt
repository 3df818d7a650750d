-- The eight bytes of a link are its four numbers.
use Prim.Native.Nat.{ℕ, ◌+◌, ◌<◌}
use native.Mathlib.Omega.{arith}
use native.Mathlib.Nat.{add_assoc, add-zero}
use mathlib.Core.Path.{◌≡◌, ◌∙◌}
use mathlib.Core.List.{List}
use lib.ListN.{take, drop}
use lib.Seq.{get_or-take, get_or-drop}
use Rattle.rules.specs.Numbers.{byte, number, two}
use Rattle.rules.specs.Network.{link_start, from, to, drive, walk}

module _ (s : List ℕ) (start size : ℕ) where
  part_byte : (i : ℕ) → i < size → byte (take size (drop start s)) i ≡ byte s (start + i)
  part_byte i h = rw (get_or-take, get_or-drop)

  part_two : (i : ℕ) → i + 1 < size → two (take size (drop start s)) i ≡ two s (start + i)
  unfolding number
  part_two i h =
      simp (add-zero, part_byte i (omega arith), part_byte (i + 1) h, add_assoc)

-- where `eight` is the part that the reader hands back for link k
module _ (s : List ℕ) (k : ℕ) (eight : List ℕ) (is : eight ≡ take 8 (drop (link_start k) s)) where
  pub link_from : two eight 0 ≡ from s k
  link_from = rw is (part_two s (link_start k) 8 0 (omega arith) ∙ rw add-zero)

  pub link_to : two eight 2 ≡ to s k
  link_to = rw is (part_two s (link_start k) 8 2 (omega arith))

  pub link_drive : two eight 4 ≡ drive s k
  link_drive = rw is (part_two s (link_start k) 8 4 (omega arith))

  pub link_walk : two eight 6 ≡ walk s k
  link_walk = rw is (part_two s (link_start k) 8 6 (omega arith))
