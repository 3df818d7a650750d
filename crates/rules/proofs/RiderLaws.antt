-- Where a rider can walk to, and how far, is settled.
use Prim.Native.Nat.{ℕ}
use mathlib.Core.Path.{◌≡◌}
use mathlib.Core.Logic.{◌≢◌, inl, inr}
use mathlib.Core.List.{List}
use Rattle.rules.specs.Request.{rider_node_of}
use Rattle.rules.specs.Walks.{no_distance, HoldsDistance}
use Rattle.rules.specs.Routes.{RiderWalks, RiderHolds, Reaches, Meeting}
use Rattle.rules.specs.declared.Request.{Request}
use Rattle.rules.proofs.WalkLaws.{distance_unique, held_unique}

module _ {network : List ℕ} {q : Request} {j v : ℕ} where
  pub rider_walks_unique : {d e : ℕ} → RiderWalks network q j v d → RiderWalks network q j v e → d ≡ e
  rider_walks_unique a b = distance_unique a.far b.far

  pub rider_holds_unique : {x y : ℕ} → RiderHolds network q j v x → RiderHolds network q j v y → x ≡ y
  rider_holds_unique a b = held_unique (λ d e. rider_walks_unique) a b

  -- What stands at a node's place of the distances from the rider's node is the rider's.
  pub rider_held : {x : ℕ} → HoldsDistance network (rider_node_of q j) v x → RiderHolds network q j v x
  rider_held (inl far) = inl (record { far = far })
  rider_held (inr none) = inr (λ d walks. none.0 _ _ walks.far.walked, none.1)

  -- A number that is not the mark is the rider's walking distance.
  pub held_walks : {x : ℕ} → RiderHolds network q j v x → x ≢ no_distance → RiderWalks network q j v x
  held_walks (inl walks) some = walks
  held_walks (inr none) some = absurd (some none.1)

-- A rider who has a meeting position reaches the route.
pub meeting_reaches : {network : List ℕ} {q : Request} {route : List ℕ} {j position d : ℕ} → Meeting network q route j position d
    → Reaches network q route j
meeting_reaches {position = position} {d} m = record { position = position; distance = d; within = m.within; walks = m.walks }
