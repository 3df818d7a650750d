-- Two networks that agree in part.
use Rattle.std.specs.Prelude.{ℕ, ◌≤◌, ◌<◌, ◌≡◌, ◌≢◌, ◌↔◌}
use mathlib.Core.List.{List, Memᴰ}
use Rattle.rules.specs.Network.{link_count, from, to, drive, walk}
use Rattle.rules.specs.Walks.{Way, Walkable}
use Rattle.rules.specs.Routes.{RiderWalks}
use Rattle.rules.specs.declared.Request.{Request}
use Rattle.rules.specs.Request.{rider_count_of}

-- The same links between the same nodes, at whatever costs. (How many nodes there are plays no part in a price.)
pub record SameLinks (a b : List ℕ) : Type 0 where
  pub count : link_count a ≡ link_count b
  pub starts : (k : ℕ) → k < link_count a → from a k ≡ from b k
  pub ends : (k : ℕ) → k < link_count a → to a k ≡ to b k

-- The walk costs may differ anywhere, and a link may be open to walkers in one and closed in the other.
pub record SameDriving (a b : List ℕ) : Type 0 where
  pub links : SameLinks a b
  pub drives : (k : ℕ) → k < link_count a → drive a k ≡ drive b k

-- The drive costs may differ anywhere.
pub record SameWalking (a b : List ℕ) : Type 0 where
  pub links : SameLinks a b
  pub walks : (k : ℕ) → k < link_count a → walk a k ≡ walk b k

-- The links of the route cost the bus the same.
abbrev pub SameOnRoute : List ℕ → List ℕ → List ℕ → Type 0
SameOnRoute a b route = (k : ℕ) → Memᴰ k route → k < link_count a → drive a k ≡ drive b k

-- Every rider has the same walking distances.
abbrev pub SameDistances : List ℕ → List ℕ → Request → Type 0
SameDistances a b q = (j v d : ℕ) → j < rider_count_of q → RiderWalks a q j v d ↔ RiderWalks b q j v d

-- All is the same but the walk cost of link k.
pub record SameButWalk (k : ℕ) (a b : List ℕ) : Type 0 where
  pub exists : k < link_count a
  pub driving : SameDriving a b
  pub others : (other : ℕ) → other < link_count a → other ≢ k → walk a other ≡ walk b other

-- Some way along such links leads from u to v and costs at most c.
pub record Within (Link : ℕ → ℕ → ℕ → ℕ → Type 0) (u v c : ℕ) : Type 0 where
  pub links : List ℕ
  pub sum : ℕ
  pub way : Way Link v u links sum
  pub cheap : sum ≤ c

-- the links other than k that can be walked
abbrev pub Besides : List ℕ → ℕ → ℕ → ℕ → ℕ → ℕ → Type 0
Besides network k other u v w = (other ≢ k) × Walkable network other u v w

-- No one walks better by link k: wherever it can be walked, a walk along other links leads from there to there and costs no more. A
-- link that is closed to walkers can be walked nowhere.
abbrev pub Needless : List ℕ → ℕ → Type 0
Needless network k = (u v w : ℕ) → Walkable network k u v w → Within (Besides network k) u v w
