-- When two networks have the same walking distances.
use Prim.Native.Nat.{ℕ, ◌≤◌, ◌<◌}
use mathlib.Core.Path.{◌≡◌, refl, sym, ◌∙◌}
use mathlib.Core.Logic.{◌↔◌}
use mathlib.Core.List.{List, [], ◌∷◌}
use native.Mathlib.Nat.{le_refl}
use native.Mathlib.Decide.{ℕ_discrete}
use native.Mathlib.Omega.{arith}
use Rattle.rules.specs.Network.{link_count, walk}
use Rattle.rules.specs.Walks.{arrived, along, Walk, Walkable, WalkingDistance}
use Rattle.rules.specs.Routes.{RiderWalks}
use Rattle.rules.specs.declared.Request.{Request}
use Rattle.rules.proofs.WalkLaws.{walk_exists, walk_costs, walk_alike, way_one}
use Rattle.paper.specs.Alike.{SameLinks, SameWalking, SameButWalk, Within, Besides, Needless}
use Rattle.paper.proofs.Ways.{way_same, within_append, within_same}

-- Every walk of a has one of b with the same ends that costs no more.
abbrev Undercuts : List ℕ → List ℕ → Type 0
Undercuts a b = (u v c : ℕ) (links : List ℕ) → Walk a u v links c → Within (Walkable b) u v c

distance_moves : {a b : List ℕ} → Undercuts a b → Undercuts b a → {u v d : ℕ} → WalkingDistance a u v d → WalkingDistance b u v d
distance_moves there back {u} {v} {d} far =
    let short = there u v d far.links far.walked in
    let again = back u v short.sum short.links short.way in
    let same : short.sum ≡ d = omega (arith, far.least _ _ again.way) in
    record {
      links = short.links;
      walked = rw same at short.way;
      least = λ other sum w. let r = back u v sum other w in omega (arith, far.least _ _ r.way);
    }

-- Where walks undercut each other, riders walk as far.
rider_same : {a b : List ℕ} {q : Request} {j v d : ℕ} → Undercuts a b → Undercuts b a → RiderWalks a q j v d ↔ RiderWalks b q j v d
rider_same there back = (
  λ walks. record { far = distance_moves there back walks.far },
  λ walks. record { far = distance_moves back there walks.far },
)

module _ {a b : List ℕ} where
  pub links_back : SameLinks a b → SameLinks b a
  links_back s =
      record {
        count = sym s.count;
        starts = λ k h. sym (s.starts k (rw s.count h));
        ends = λ k h. sym (s.ends k (rw s.count h));
      }

  -- A link that costs walkers no more can be walked alike,
  link_walks : {k u v w : ℕ} → SameLinks a b → (k < link_count a → walk b k ≤ walk a k) → Walkable a k u v w → Walkable b k u v (walk b k)
  link_walks {k} s less l = let h = walk_exists l in walk_alike s.count (s.starts k h) (s.ends k h) (less h) l

  -- and one that costs them the same at the same cost.
  link_same : {k u v w : ℕ} → SameLinks a b → (k < link_count a → walk a k ≡ walk b k) → Walkable a k u v w → Walkable b k u v w
  link_same {k} {w = w} s same l =
      let costs : walk b k ≡ w = sym (same (walk_exists l)) ∙ walk_costs l in
      rw costs at (link_walks s (λ h. omega (arith, same h)) l)

  walking_back : SameWalking a b → SameWalking b a
  walking_back s = record { links = links_back s.links; walks = λ k h. sym (s.walks k (rw s.links.count h)) }

  walks_undercut : SameWalking a b → Undercuts a b
  walks_undercut s u v c links w =
      record { links = links; sum = c; way = way_same (λ k u v w h. link_same s.links (s.walks k)) w; cheap = le_refl c }

-- Walking distances rest on walk costs alone.
pub walking_same : {a b : List ℕ} {q : Request} {j v d : ℕ} → SameWalking a b → RiderWalks a q j v d ↔ RiderWalks b q j v d
walking_same s = rider_same (walks_undercut s) (walks_undercut (walking_back s))

module _ {network : List ℕ} {k : ℕ} (needless : Needless network k) where
  -- A needless link has other links in its place ..
  replaced : {l u v w : ℕ} → Walkable network l u v w → Within (Besides network k) u v w
  replaced {l} {u} {v} {w} link = elim (ℕ_discrete l k) [
    | no other ↦ record { links = l ∷ []; sum = w; way = way_one (other, link); cheap = le_refl w }
    | yes same ↦ needless u v w (rw same at link)
  ]

  -- .. and so can be left out of every walk.
  avoided : {v u c : ℕ} {links : List ℕ} → Walk network u v links c → Within (Besides network k) u v c
  avoided (arrived here free) = record { links = []; sum = 0; way = arrived here refl; cheap = omega arith }
  avoided (along x w rest link way e) = within_append (replaced link) (avoided way) (omega arith)

module _ {k : ℕ} {a b : List ℕ} (s : SameButWalk k a b) where
  but_walk_back : SameButWalk k b a
  but_walk_back =
      let d = s.driving in
      let count = d.links.count in
      record {
        exists = rw (← count) s.exists;
        driving = record { links = links_back d.links; drives = λ l h. sym (d.drives l (rw count h)) };
        others = λ l h other. sym (s.others l (rw count h) other);
      }

  besides_same : (l u v w : ℕ) → Besides a k l u v w → Besides b k l u v w
  besides_same l u v w (other, link) = (other, link_same s.driving.links (λ h. s.others l h other) link)

  avoiding_undercuts : Needless a k → Undercuts a b
  avoiding_undercuts needless u v c links w = within_same (λ l u v w link. (besides_same l u v w link).1) (le_refl c) (avoided needless w)

  -- A needless link that is closed to walkers or costs them more stays needless.
  needless_stays : walk a k ≤ walk b k → Needless a k → Needless b k
  needless_stays more needless u v w link =
      let here = link_walks (links_back s.driving.links) (λ h. more) link in
      within_same besides_same (omega (arith, walk_costs link)) (needless u v (walk a k) here)

-- Closing a needless link to walkers, or raising its walk cost, changes no walking distance.
pub needless_same : {k : ℕ} {a b : List ℕ} {q : Request} {j v d : ℕ} → SameButWalk k a b → Needless a k → walk a k ≤ walk b k
    → RiderWalks a q j v d ↔ RiderWalks b q j v d
needless_same s needless more =
    rider_same (avoiding_undercuts s needless) (avoiding_undercuts (but_walk_back s) (needless_stays s more needless))
