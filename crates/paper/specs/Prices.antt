-- Routes that have a price.
use Rattle.std.specs.Prelude.{ℕ, ◌≤◌, ◌≡◌, List, length}
use Rattle.rules.specs.Routes.{Price}
use Rattle.rules.specs.declared.Request.{Request}
use Rattle.rules.specs.Request.{rider_count_of}

-- The route has this price, with one meeting position for each rider.
pub record HasPrice (network : List ℕ) (q : Request) (route : List ℕ) (price : ℕ) : Type 0 where
  pub meetings : List ℕ
  pub size : length meetings ≡ rider_count_of q
  pub prices : Price network q route meetings price

-- No route has a lower price.
abbrev pub NoLower : List ℕ → Request → ℕ → Type 0
NoLower network q price = (route meetings : List ℕ) (other : ℕ) → Price network q route meetings other → price ≤ other
