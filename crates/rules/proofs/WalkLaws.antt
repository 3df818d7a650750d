-- What a link gives that can be walked or driven, and that two nodes settle their walking distance. Whoever needs something of a
-- walkable link asks here, so that what walking a link means can change in one place.
use Prim.Native.Nat.{ℕ, ◌+◌, ◌<◌, ◌≤◌}
use mathlib.Core.Path.{◌≡◌, refl, sym, subst, subst₂}
use mathlib.Core.Logic.Dec
use mathlib.Core.Logic.{◌⊎◌, inl, inr, ⊎_elim, ⊎_swap}
use mathlib.Core.List.{List, [], ◌∷◌, ◌++◌}
use native.Mathlib.Decide.{ℕ_discrete, dec_lt}
use native.Mathlib.Omega.{arith}
use Rattle.rules.specs.Limits.{closed}
use Rattle.rules.specs.Network.{SoundNetwork, node_count, link_count, from, to, walk}
use Rattle.rules.specs.Walks.{Leads, Way, arrived, along, Walkable, Walk, WalkingDistance, no_distance, HoldsDistance}

-- Link k of the network joins the nodes u and v, at the cost w.
pub record Joins (network : List ℕ) (k u v w : ℕ) : Type 0 where
  pub exists : k < link_count network
  pub start : u < node_count network
  pub end : v < node_count network
  pub cheap : w < closed

pub leads_joins : {network : List ℕ} {cost : ℕ → ℕ} {k u v w : ℕ} → SoundNetwork network → Leads network cost k u v w
    → Joins network k u v w
leads_joins {k = k} sound l =
    record {
      exists = l.exists;
      start = rw l.starts at (sound.starts k l.exists);
      end = rw l.ends at (sound.ends k l.exists);
      cheap = l.opened;
    }

module _ {network : List ℕ} {k u v w : ℕ} where
  -- A link that is open to walkers can be walked the way it leads,
  pub walk_along : Leads network (walk network) k u v w → Walkable network k u v w
  walk_along l = inl l

  -- can be walked back wherever it can be walked,
  pub walk_back : Walkable network k u v w → Walkable network k v u w
  walk_back l = ⊎_swap l

  -- exists and joins two nodes,
  pub walk_exists : Walkable network k u v w → k < link_count network
  walk_exists (inl there) = there.exists
  walk_exists (inr back) = back.exists

  pub walk_joins : SoundNetwork network → Walkable network k u v w → Joins network k u v w
  walk_joins sound (inl there) = leads_joins sound there
  walk_joins sound (inr back) =
      let j = leads_joins sound back in
      record { exists = j.exists; start = j.end; end = j.start; cheap = j.cheap }

  -- costs what it costs to walk,
  pub walk_costs : Walkable network k u v w → walk network k ≡ w
  walk_costs (inl there) = there.costs
  walk_costs (inr back) = back.costs

  -- and what holds of the way it leads and of the way back holds of each way it can be walked.
  pub walk_either : (P : ℕ → ℕ → Type 0)
      → (k < link_count network → walk network k < closed → P (from network k) (to network k) × P (to network k) (from network k))
      → Walkable network k u v w
      → P u v
  walk_either P ways (inl l) = rw (l.starts, l.ends) at (ways l.exists (rw l.costs l.opened)).0
  walk_either P ways (inr l) = rw (l.starts, l.ends) at (ways l.exists (rw l.costs l.opened)).1

-- What holds of one way to walk a link and of the way back holds of each.
pub walk_each : {network : List ℕ} {k u v w x y z : ℕ} (P : ℕ → ℕ → Type 0) → Walkable network k u v w → P u v → P v u
    → Walkable network k x y z → P x y
walk_each P link there back other =
    walk_either P
    (λ _ _. ⊎_elim (λ l. rw (l.starts, l.ends) (there, back)) (λ l. rw (l.starts, l.ends) (back, there)) link)
    other

module _ (network : List ℕ) {P : ℕ → ℕ → Type 0} (dec : (x w : ℕ) → Dec (P x w)) (k : ℕ) where
  -- Whether link k is open to walkers, with u at one end and P at the other,
  dec_open : (u end other : ℕ) → Dec (((k < link_count network) × (walk network k < closed)) × ((end ≡ u) × P other (walk network k)))
  dec_open u end other =
      Dec.and (Dec.and (dec_lt k (link_count network)) (dec_lt (walk network k) closed))
      (Dec.and (ℕ_discrete end u) (dec other (walk network k)))

  -- and so whether it can be walked from u to some end, at some cost, with P.
  pub dec_walk_on : (u : ℕ) → Dec ((x w : ℕ) × Walkable network k u x w × P x w)
  dec_walk_on u = elim (dec_open u (from network k) (to network k)) [
    | yes ((exists, opened), (starts, p)) ↦
        yes (_, _, inl (record { exists = exists; starts = starts; ends = refl; costs = refl; opened = opened }), p)
    | no h ↦ elim (dec_open u (to network k) (from network k)) [
      | yes ((exists, opened), (ends, p)) ↦
          yes (_, _, inr (record { exists = exists; starts = refl; ends = ends; costs = refl; opened = opened }), p)
      | no g ↦ no (λ (x, w, l, p).
          ⊎_elim (λ l. h ((l.exists, rw l.costs l.opened), (l.starts, rw (l.ends, l.costs) p)))
          (λ l. g ((l.exists, rw l.costs l.opened), (l.ends, rw (l.starts, l.costs) p)))
          l)
    ]
  ]

-- A link that is alike in two networks leads alike.
pub leads_same : {a b : List ℕ} {cost other : ℕ → ℕ} {k u v w : ℕ}
    → link_count a ≡ link_count b
    → from a k ≡ from b k
    → to a k ≡ to b k
    → cost k ≡ other k
    → Leads a cost k u v w
    → Leads b other k u v w
leads_same count starts ends costs l =
    record { exists = omega (arith, l.exists); starts = cc; ends = cc; costs = cc; opened = l.opened }

-- A link that leads alike in the other network, and costs walkers no more there, can be walked alike there.
pub walk_alike : {a b : List ℕ} {k u v w : ℕ}
    → link_count a ≡ link_count b
    → from a k ≡ from b k
    → to a k ≡ to b k
    → walk b k ≤ walk a k
    → Walkable a k u v w
    → Walkable b k u v (walk b k)
walk_alike {a} {b} {k} count starts ends less link = ⊎_elim (λ l. inl (alike l)) (λ l. inr (alike l)) link
  where
    alike : {u v w : ℕ} → Leads a (walk a) k u v w → Leads b (walk b) k u v (walk b k)
    alike l = record { exists = omega (arith, l.exists); starts = cc; ends = cc; costs = refl; opened = omega (arith, l.opened, l.costs) }

-- The costs of one list of links add up to one sum, wherever it starts.
pub way_sum : {network : List ℕ} {cost : ℕ → ℕ} {v u y x c d : ℕ} {links : List ℕ}
    → Way (Leads network cost) v u links c
    → Way (Leads network cost) y x links d
    → c ≡ d
way_sum (arrived _ c) (arrived _ d) = cc
way_sum (along _ _ _ k rest c) (along _ _ _ l other d) = cc (way_sum rest other)

module _ {Link : ℕ → ℕ → ℕ → ℕ → Type 0} where
  -- The way of one link, and one way behind another.
  pub way_one : {k u v w : ℕ} → Link k u v w → Way Link v u (k ∷ []) w
  way_one {v = v} {w} link = along {c = w} v w 0 link (arrived refl refl) (omega arith)

  pub way_append : {x u v c d : ℕ} {links others : List ℕ} → Way Link x u links c → Way Link v x others d → Way Link v u (links ++ others) (c + d)
  way_append {v} {others} (arrived here free) way = subst₂ (λ (y z : ℕ). Way Link v y others z) (sym here) (omega arith) way
  way_append {c} {d} (along y w rest link way e) other = along {c = c + d} y w (rest + d) link (way_append way other) (omega arith)

  -- Along links that lead back, a way leads back, at the same cost.
  way_back : {v u c : ℕ} {links : List ℕ} → ((k u v w : ℕ) → Link k u v w → Link k v u w) → Way Link v u links c
      → (others : List ℕ) × Way Link u v others c
  way_back {v} {u} {c} back (arrived here free) = ([], arrived (sym here) free)
  way_back {v} {u} {c} back (along {k = k} x w rest link way e) =
      let (others, there) = way_back back way in
      (others ++ (k ∷ []), subst (Way Link u v (others ++ (k ∷ []))) (omega arith) (way_append there (way_one (back k u x w link))))

-- So there is a walk back that costs as much as the walk there,
pub return_walk : {network : List ℕ} {u v sum : ℕ} {links : List ℕ} → Walk network u v links sum → (others : List ℕ) × Walk network v u others sum
return_walk walk = way_back (λ k u v w. walk_back) walk

-- and it is as far back as there.
pub distance_back : {network : List ℕ} {u v d : ℕ} → WalkingDistance network u v d → WalkingDistance network v u d
distance_back a =
    let (links, walked) = return_walk a.walked in
    record { links = links; walked = walked; least = λ other sum walk. a.least _ sum (return_walk walk).1 }

-- There is at most one walking distance from a node to a node.
pub distance_unique : {network : List ℕ} {u v d e : ℕ} → WalkingDistance network u v d → WalkingDistance network u v e → d ≡ e
distance_unique a b = omega (arith, a.least _ _ b.walked, b.least _ _ a.walked)

-- The walking distance from a node to itself is 0.
pub distance_self : (network : List ℕ) (u : ℕ) → WalkingDistance network u u 0
distance_self network u = record { links = []; walked = arrived refl refl; least = λ other sum walked. omega arith }

-- A place that holds the one number with P, or the mark where there is none, has one value.
pub held_unique : {P : ℕ → Type 0} {x y : ℕ} → ((d e : ℕ) → P d → P e → d ≡ e)
    → P x ⊎ (((d : ℕ) → P d → ⊥) × (x ≡ no_distance))
    → P y ⊎ (((d : ℕ) → P d → ⊥) × (y ≡ no_distance))
    → x ≡ y
held_unique one (inl a) (inl b) = one _ _ a b
held_unique one (inl a) (inr b) = absurd (b.0 _ a)
held_unique one (inr a) (inl b) = absurd (a.0 _ b)
held_unique one (inr a) (inr b) = cc

-- Where there is no walk there is no walking distance.
pub no_walk_no_distance : {network : List ℕ} {u v x : ℕ} → HoldsDistance network u v x
    → WalkingDistance network u v x ⊎ (((d : ℕ) → WalkingDistance network u v d → ⊥) × (x ≡ no_distance))
no_walk_no_distance (inl walks) = inl walks
no_walk_no_distance (inr none) = inr (λ d walks. none.0 _ _ walks.walked, none.1)

pub holds_distance_unique : {network : List ℕ} {u v x y : ℕ} → HoldsDistance network u v x → HoldsDistance network u v y → x ≡ y
holds_distance_unique a b = held_unique (λ d e. distance_unique) (no_walk_no_distance a) (no_walk_no_distance b)
