-- What an engine promises leaves one result.
use Prim.Native.Nat.{ℕ}
use mathlib.Core.Path.{◌≡◌}
use mathlib.Core.List.{List}
use Rattle.rules.proofs.RoomLaws.{kept_unique}
use Rattle.least.specs.Trips.{Arcs}
use Rattle.least.specs.Spread.{Spread}
use Rattle.least.proofs.Least.{unique}

pub spread_unique : {cap n : ℕ} {Arc : Arcs} {before one other : List ℕ} → Spread cap n Arc before one
    → Spread cap n Arc before other → one ≡ other
spread_unique a b = kept_unique a.kept b.kept (λ i h. unique (a.least i h) (b.least i h))
