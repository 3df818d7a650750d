-- A legal route whose riders all reach it has a price.
use Prim.Native.Nat.{ℕ, suc, ◌+◌, ◌*◌, ◌≤◌, ◌<◌}
use mathlib.Core.Path.{refl}
use mathlib.Core.List.{List}
use native.Mathlib.Decide.{dec_lt}
use native.Mathlib.Omega.{arith}
use lib.ListN.{length, get_or}
use Rattle.rules.specs.Network.{SoundNetwork, node_count}
use Rattle.rules.specs.Request.{SoundValue, rider_weight_of, rider_count_of, bus_weight_of}
use Rattle.rules.specs.Routes.{Route, node_at, Reaches, RiderWalks, Meeting, sum, Price}
use Rattle.rules.specs.declared.Request.{Request}
use Rattle.least.proofs.Decide.{LowestBelow, dec_lowest, lowest_of, dec_rider_walks}
use Rattle.least.proofs.Collect.{collect}
use Rattle.paper.specs.Prices.{HasPrice}

-- Riders who have each a meeting position make a list of them, and a price.
pub meetings_price : {network : List ℕ} (q : Request) {route : List ℕ} {driving : ℕ} (walking : ℕ → ℕ) → Route network q route driving
    → ((j : ℕ) → j < rider_count_of q → (p : ℕ) × Meeting network q route j p (walking j))
    → HasPrice network q route (bus_weight_of q * driving + sum (rider_count_of q) (λ j. rider_weight_of q j * walking j))
meetings_price {network} q {route} {driving} walking drives meets =
    let (meetings, size, met) = collect (rider_count_of q) (λ j p. Meeting network q route j p (walking j)) meets in
    let price : Price network q route meetings _ = record { driving = driving; walking = walking; drives = drives; meets = met; adds = refl } in
    record { meetings = meetings; size = size; prices = price }

module _ {network : List ℕ} (sound : SoundNetwork network) {q : Request} (value : SoundValue (node_count network) q) (route : List ℕ) where
  -- Of the distances to the positions that a rider reaches one is the least, and of the positions with that distance one is the
  -- earliest.
  pub nearest : {j : ℕ} → j < rider_count_of q → Reaches network q route j → (d : ℕ) × ((p : ℕ) × Meeting network q route j p d)
  nearest {j} h r = (
    least.number,
    (
      least.holds.number,
      record {
        within = omega (arith, least.holds.within);
        walks = least.holds.holds;
        least = λ other c g far. elim (dec_lt c least.number) [ yes l ↦ absurd (least.first c l (earliest c g far)) | no l ↦ omega arith ];
        earliest = least.holds.first;
      },
    ),
  )
    where
      Near : ℕ → ℕ → Type 0
      Near d i = RiderWalks network q j (node_at network q.source route i) d

      dec : (d i : ℕ) → Dec (Near d i)
      dec d i = dec_rider_walks sound value h (node_at network q.source route i) d

      earliest : {i : ℕ} (d : ℕ) → i ≤ length route → Near d i → LowestBelow (Near d) (suc (length route))
      earliest d g far = lowest_of (dec d) (omega arith) far

      least : LowestBelow (λ d. LowestBelow (Near d) (suc (length route))) (suc r.distance)
      least =
          lowest_of (λ d. dec_lowest (dec d) (suc (length route))) {i = r.distance} (omega arith) (earliest r.distance r.within r.walks)

  -- A legal route whose riders all reach it has a price.
  pub route_price : {driving : ℕ} → Route network q route driving → ((j : ℕ) → j < rider_count_of q → Reaches network q route j)
      → (price : ℕ) × HasPrice network q route price
  route_price drives reaches =
      let (distances, size, near) = collect (rider_count_of q) (λ j d. (p : ℕ) × Meeting network q route j p d) (λ j h. nearest h (reaches j h)) in
      (_, meetings_price q (λ j. get_or distances j 0) drives near)
