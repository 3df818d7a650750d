-- Ways carried over from one kind of link to another.
use Prim.Native.Nat.{ℕ, ◌+◌, ◌≤◌}
use mathlib.Core.Path.{refl}
use mathlib.Core.List.{List, ◌++◌, Memᴰ}
use native.Mathlib.Omega.{arith}
use Rattle.rules.specs.Walks.{Way, arrived, along}
use Rattle.rules.proofs.WalkLaws.{way_append}
use Rattle.paper.specs.Alike.{Within}

module _ {Link Other : ℕ → ℕ → ℕ → ℕ → Type 0} where
  -- Links that lead alike lead the same way.
  pub way_same : {v u c : ℕ} {links : List ℕ} → ((k u v w : ℕ) → Memᴰ k links → Link k u v w → Other k u v w)
      → Way Link v u links c → Way Other v u links c
  way_same alike (arrived here free) = arrived here free
  way_same alike (along x w rest link way e) =
      along x w rest (alike _ _ x w (Memᴰ.head refl) link) (way_same (λ k u v w h. alike k u v w (Memᴰ.tail h)) way) e

  pub within_same : ((k u v w : ℕ) → Link k u v w → Other k u v w) → {u v c most : ℕ} → c ≤ most → Within Link u v c → Within Other u v most
  within_same alike h a =
      record { links = a.links; sum = a.sum; way = way_same (λ k u v w h. alike k u v w) a.way; cheap = omega arith }

module _ {Link : ℕ → ℕ → ℕ → ℕ → Type 0} where
  -- One way behind another.
  pub within_append : {u x v c d most : ℕ} → Within Link u x c → Within Link x v d → c + d ≤ most → Within Link u v most
  within_append a b e =
      record { links = a.links ++ b.links; sum = a.sum + b.sum; way = way_append a.way b.way; cheap = omega arith }
