-- Links, walks and walking distances.
use Rattle.std.specs.Prelude.{ℕ, ◌+◌, ◌<◌, ◌≤◌, ◌^◌, ◌-◌, ◌≡◌, ◌⊎◌, List, [], ◌∷◌}
use Rattle.rules.specs.Limits.{closed}
use Rattle.rules.specs.Network.{link_count, from, to, walk}

-- Link k is open to a use that it costs `cost k`, and leads from u to v at the cost w (1.4).
pub record Leads (network : List ℕ) (cost : ℕ → ℕ) (k u v w : ℕ) : Type 0 where
  pub exists : k < link_count network
  pub starts : from network k ≡ u
  pub ends : to network k ≡ v
  pub costs : cost k ≡ w
  pub opened : w < closed

-- The links, one behind the other, lead from u to v, and their costs add up to c. No link at all leads from a node to itself, at 0.
pub data Way (Link : ℕ → ℕ → ℕ → ℕ → Type 0) (v : ℕ) : ℕ → List ℕ → ℕ → Type 0 where
  arrived : {u c : ℕ} → u ≡ v → c ≡ 0 → Way Link v u [] c
  along :
      {u c k : ℕ} {links : List ℕ} (x w rest : ℕ)
      → Link k u x w
      → Way Link v x links rest
      → c ≡ w + rest
      → Way Link v u (k ∷ links) c

-- People walk a link that is open to them the way it leads, or back (2.1).
abbrev pub Walkable : List ℕ → ℕ → ℕ → ℕ → ℕ → Type 0
Walkable network k u v w = Leads network (walk network) k u v w ⊎ Leads network (walk network) k v u w

abbrev pub Walk : List ℕ → ℕ → ℕ → List ℕ → ℕ → Type 0
Walk network u v links sum = Way (Walkable network) v u links sum

-- d is the walking distance from u to v: a walk's sum, and no walk's is lower (2.2).
pub record WalkingDistance (network : List ℕ) (u v d : ℕ) : Type 0 where
  pub links : List ℕ
  pub walked : Walk network u v links d
  pub least : (other : List ℕ) (sum : ℕ) → Walk network u v other sum → d ≤ sum

abbrev pub NoWalk : List ℕ → ℕ → ℕ → Type 0
NoWalk network u v = (links : List ℕ) (sum : ℕ) → Walk network u v links sum → ⊥

-- the mark of no walking distance in a 32-bit place (2.3)
abbrev pub no_distance : ℕ
no_distance = 2 ^ 32 - 1

-- what a place holds of the way from u to v
abbrev pub HoldsDistance : List ℕ → ℕ → ℕ → ℕ → Type 0
HoldsDistance network u v place = WalkingDistance network u v place ⊎ (NoWalk network u v × (place ≡ no_distance))
