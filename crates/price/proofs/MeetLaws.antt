-- The riders are met one after the other, each at the nearest position.
use Prim.Native.Nat.{ℕ, ◌+◌, ◌*◌, ◌≤◌, ◌<◌}
use native.Mathlib.Omega.{arith}
use native.Mathlib.Decide.{ℕ_discrete}
use mathlib.Core.Path.{◌≡◌, refl, ap}
use mathlib.Core.Logic.{◌≢◌}
use mathlib.Core.Bool.{cond}
use mathlib.Core.List.{List, [], ◌∷◌}
use lib.ListN.{length, get_or, set, take}
use lib.Seq.{get_or-set_same, get_or-set_other, get_or-take, length-take-le}
use lib.Dec.{eqb}
use borrow.Author.Tests.{eq-eqb, ne_eqb}
use Rattle.rules.specs.Request.{rider_weight_of, rider_count_of, bus_weight_of}
use Rattle.rules.specs.Routes.{Meeting, Stranded, sum}
use Rattle.rules.specs.Answers.{gives, refuses, Pricing, stranded, priced}
use Rattle.rules.specs.declared.Request.{Request}
use Rattle.rules.proofs.RiderLaws.{meeting_reaches}
use Rattle.rules.proofs.PriceLaws.{sum_same}
use Rattle.price.specs.Sound.{SoundRoute, driving_of}
use Rattle.price.proofs.RouteLaws.{sum_more}
use Rattle.rules.specs.Checks.{Accepted}

-- The riders below j are met, and the price is that of the drive and of their walks.
pub record MetBelow (network : List ℕ) (q : Request) (route : List ℕ) (j price : ℕ) (meetings : List ℕ) : Type 0 where
  pub within : j ≤ rider_count_of q
  pub walking : ℕ → ℕ
  pub meets : (i : ℕ) → i < j → Meeting network q route i (get_or meetings i 0) (walking i)
  pub adds : price ≡ bus_weight_of q * driving_of network route + sum j (λ i. rider_weight_of q i * walking i)

module _ {network : List ℕ} {q : Request} {route : List ℕ} where
  pub met_none : {price : ℕ} {meetings : List ℕ} → price ≡ bus_weight_of q * driving_of network route → MetBelow network q route 0 price meetings
  unfolding sum
  met_none is = record { within = omega arith; walking = λ i. 0; meets = λ i h. absurd (omega arith); adds = omega arith }

  module _ {j price : ℕ} {meetings : List ℕ} (so : MetBelow network q route j price meetings) where
    -- one rider more
    pub met_more : {position place : ℕ} → j < rider_count_of q → j < length meetings → Meeting network q route j position place
        → MetBelow network q route (j + 1) (price + rider_weight_of q j * place) (set meetings j position)
    met_more {position} {place} more room meeting =
        record {
          within = omega arith;
          walking = walking;
          meets = λ i h. elim (ℕ_discrete i j) [
            | yes e ↦ rw (e, here, get_or-set_same meetings j position 0 room) meeting
            | no e ↦ rw (there i e, get_or-set_other meetings j i position 0 e) (so.meets i (omega arith))
          ];
          adds = rw (sum_more j (λ i. rider_weight_of q i * walking i), earlier, here) (omega (arith, so.adds));
        }
      where
        walking : ℕ → ℕ
        walking i = cond (eqb i j) place (so.walking i)

        here : walking j ≡ place
        here = simp (eq-eqb j j refl)

        there : (i : ℕ) → i ≢ j → walking i ≡ so.walking i
        there i h = simp (ne_eqb i j h)

        earlier : sum j (λ i. rider_weight_of q i * walking i) ≡ sum j (λ i. rider_weight_of q i * so.walking i)
        earlier = sum_same j _ _ (λ i h. ap (λ (x : ℕ). rider_weight_of q i * x) (there i (omega arith)))

    -- a rider who can walk to no position, the first
    pub met_stranded : j < rider_count_of q → Stranded network q route j → Pricing Accepted network q route (refuses 37 j) []
    met_stranded more none = stranded j refl more none (λ i h lost. lost (meeting_reaches (so.meets i h))) refl refl

    -- all of them
    pub met_all : SoundRoute network q route → rider_count_of q ≤ j → rider_count_of q ≤ length meetings
        → Pricing Accepted network q route (gives (price ∷ [])) (take (rider_count_of q) meetings)
    met_all may all room =
        let e : j ≡ rider_count_of q = omega (arith, so.within) in
        priced price refl
        (record {
          driving = driving_of network route;
          walking = so.walking;
          drives = may.drives;
          meets = λ i h. rw (get_or-take (rider_count_of q) meetings i 0 h) (so.meets i (omega arith));
          adds = rw e at so.adds;
        })
        (length-take-le (rider_count_of q) meetings room) refl
