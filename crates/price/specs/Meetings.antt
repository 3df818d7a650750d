-- The meeting positions that come with a route's price.
use Rattle.std.specs.Prelude.{ℕ, ◌∷◌, List, [], Result, Ok, Err, take}
use Rattle.rules.specs.Checks.{Verdict}
use Rattle.rules.specs.Request.{rider_count_of}
use Rattle.rules.specs.Answers.{Outcome, gives, refusal_outcome, Pricing}
use Rattle.rules.specs.declared.refusal.Refusal.{Refusal}
use Rattle.rules.specs.declared.Request.{Request}
use Rattle.price.specs.declared.riders.RoutePrice.{RoutePrice}

-- the outcome of pricing (4.9)
abbrev pub price_outcome : Result RoutePrice Refusal → Outcome
price_outcome (Ok priced) = gives (priced.price ∷ [])
price_outcome (Err r) = refusal_outcome r

-- one for each rider beside a price, and none beside a refusal (4.8, 4.9)
abbrev pub meetings_of : Result RoutePrice Refusal → ℕ → List ℕ
meetings_of (Ok priced) count = take count priced.meetings
meetings_of (Err r) count = []

-- how pricing a route ends, with what it gives (4.9)
abbrev pub Prices : Verdict → List ℕ → Request → List ℕ → Result RoutePrice Refusal → Type 0
Prices verdict network q route r =
    Pricing verdict network q route (price_outcome r) (meetings_of r (rider_count_of q))
