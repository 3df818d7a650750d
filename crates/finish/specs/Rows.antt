-- What a row of the work table starts from.
use Rattle.std.specs.Prelude.{ℕ, List}
use Rattle.rules.specs.Plans.{Has}
use Rattle.rules.specs.declared.Request.{Request}
use Rattle.least.specs.Trips.{Inits}
use Rattle.finish.specs.Packed.{Met}

-- To meet, of R, one of the riders seen so far, and then to finish, takes x.
abbrev pub MetSeen : List ℕ → Request → ℕ → (ℕ → Type 0) → Inits
MetSeen network q R Seen v x = (j : ℕ) × Seen j × Met network q R v j x

-- The riders that are not left to be seen.
abbrev pub Outside : ℕ → ℕ → Type 0
Outside left j = Has left j → ⊥
