-- What can be said of every refusal that a list of checks gives: how large its number and its place are.
use Prim.Native.Nat.{ℕ, zero, suc, ◌+◌, ◌≤◌, ◌<◌}
use native.Mathlib.Omega.{arith}
use native.Mathlib.Nat.{add-zero}
use mathlib.Core.Path.{◌≡◌, refl, sym, ◌∙◌, subst}
use mathlib.Core.Bool.{Bool, true, false, cond}
use mathlib.Core.List.{List, [], ◌∷◌, ◌++◌}
use Rattle.rules.specs.Checks.{number_of, Check, check, refuse, first_of, each, Verdict, Accepted}
use Rattle.rules.specs.Limits.{most_riders}
use Rattle.rules.specs.Network.{link_count, opening_checks, size_checks, link_checks, network_checks, network_opening}
use Rattle.rules.specs.Request.{rider_count, count_checks, rider_node_checks, node_checks, rider_weight_checks, weight_checks, request_checks, request_opening}
use Rattle.rules.specs.Request.{record_checks}
use Rattle.rules.specs.Rooms.{Lent}
use Rattle.rules.specs.Answers.{search_checks}
use Rattle.rules.specs.declared.refusal.Fault.{Fault}
use Rattle.rules.specs.declared.refusal.Opening.{Opening}
use Rattle.rules.specs.declared.refusal.Refusal.{Refusal}
use Rattle.rules.proofs.Clash.{clash}
use Rattle.rules.proofs.Order.{front_refused, front_passed}
use Rattle.rules.proofs.SoundNetworkLaws.{sizes_accepted}
use Rattle.rules.proofs.SoundRequestLaws.{count_accepted}
use Rattle.std.specs.Prelude.{Ok, Err}

-- Every refusal that the checks give has P.
pub record Gives (P : Refusal → Type 0) (checks : List Check) : Type 0 where
  pub given : (r : Refusal) → first_of checks ≡ Err r → P r

pub same_refusal : (P : Refusal → Type 0) {x r : Refusal} → P x → ◌≡◌ {A = Verdict} (Err x) (Err r) → P r
same_refusal P {x} {r} p e = let same : x ≡ r = cc in subst P same p

first_given : (P : Refusal → Type 0) (b : Bool) (x r : Refusal) {rest : Verdict} → P x → cond b (Err x) rest ≡ Err r
    → (b ≡ false → rest ≡ Err r → P r) → P r
first_given P true x r p e later = same_refusal P p e
first_given P false x r p e later = later refl e

module _ {P : Refusal → Type 0} where
  pub none_given : Gives P []
  unfolding first_of
  none_given = record { given = λ r e. clash (cc) }

  -- one check in front, which the rest may take as passed
  pub then_given : (c : Check) {rest : List Check} → P (refuse c.fault c.place) → (c.applies ≡ false → Gives P rest)
      → Gives P (c ∷ rest)
  unfolding first_of
  then_given c p later = record { given = λ r e. first_given P c.applies (refuse c.fault c.place) r p e (λ passes. (later passes).given r) }

  pub check_given : (c : Check) {rest : List Check} → P (refuse c.fault c.place) → Gives P rest → Gives P (c ∷ rest)
  check_given c p later = then_given c p (λ passes. later)

  pub append_given : (front : List Check) {rest : List Check} → Gives P front → (first_of front ≡ Accepted → Gives P rest)
      → Gives P (front ++ rest)
  append_given front {rest} here later = record { given = λ r e. go r e (first_of front) refl }
    where
      go : (r : Refusal) → first_of (front ++ rest) ≡ Err r → (v : Verdict) → first_of front ≡ v → P r
      go r e (Ok _) passes = (later passes).given r (sym (front_passed front rest passes) ∙ e)
      go r e (Err x) stops = same_refusal P (here.given x stops) (sym (front_refused front rest x stops) ∙ e)

  pub each_given : (checks : ℕ → List Check) (count first : ℕ) → ((k : ℕ) → k < count → Gives P (checks (first + k)))
      → Gives P (each checks count first)
  unfolding each
  each_given checks zero first one = none_given
  each_given checks (suc count) first one =
      append_given (checks first) (rw add-zero at (one 0 (omega arith)))
      (λ passes. each_given checks count (suc first)
      (λ k h. let moved : suc first + k ≡ first + suc k = omega arith in rw moved (one (suc k) (omega arith))))

-- A number below the limit, and a place of 16 bits: a link of a record or of a route, or a rider.
pub record Small (limit : ℕ) (r : Refusal) : Type 0 where
  pub number : number_of r.fault < limit
  pub place : r.place < 65536

pub check_small : {limit : ℕ} (c : Check) {rest : List Check} → number_of c.fault < limit → c.place < 65536 → Gives (Small limit) rest
    → Gives (Small limit) (c ∷ rest)
check_small c number place later = check_given c (record { number = number; place = place }) later

-- two and three checks at place 0
module _ {limit : ℕ} where
  two_small : {f g : Fault} {x y : Bool} → number_of f < limit → number_of g < limit → Gives (Small limit) (check f 0 x ∷ check g 0 y ∷ [])
  two_small a b = check_small _ a (omega arith) (check_small _ b (omega arith) none_given)

  three_small : {f g h : Fault} {x y z : Bool} → number_of f < limit → number_of g < limit → number_of h < limit
      → Gives (Small limit) (check f 0 x ∷ check g 0 y ∷ check h 0 z ∷ [])
  three_small a b c = check_small _ a (omega arith) (two_small b c)

module _ (limit : ℕ) where
  -- The records' refusals are numbered up to 17.
  module _ (above : 17 < limit) where
    opening_small : (opens : Opening) (s : List ℕ) → number_of opens.short < limit → number_of opens.version < limit → number_of opens.length < limit
        → Gives (Small limit) (opening_checks opens s)
    unfolding opening_checks
    opening_small opens s short version length = three_small short version length

    sizes_small : (s : List ℕ) → Gives (Small limit) (size_checks s)
    unfolding size_checks
    sizes_small s = two_small (omega arith) (omega arith)

    pub network_small : (s : List ℕ) → Gives (Small limit) (network_checks s)
    unfolding network_checks
    network_small s =
        append_given (opening_checks network_opening s) (opening_small network_opening s (omega arith) (omega arith) (omega arith))
        (λ opens. append_given (size_checks s) (sizes_small s)
        (λ fits. each_given (link_checks s) (link_count s) 0
        (λ k h. check_small _ (omega arith) (omega (arith, (sizes_accepted s fits).links)) none_given)))

    counts_small : (s : List ℕ) → Gives (Small limit) (count_checks s)
    unfolding count_checks
    counts_small s = two_small (omega arith) (omega arith)

    nodes_small : (n : ℕ) (s : List ℕ) → rider_count s ≤ most_riders → Gives (Small limit) (node_checks n s)
    unfolding node_checks
    nodes_small n s few =
        check_small _ (omega arith) (omega arith) (check_small _ (omega arith) (omega arith)
        (each_given (rider_node_checks n s) (rider_count s) 0 (λ j h. check_small _ (omega arith) (omega arith) none_given)))

    weights_small : (s : List ℕ) → rider_count s ≤ most_riders → Gives (Small limit) (weight_checks s)
    unfolding weight_checks
    weights_small s few =
        check_small _ (omega arith) (omega arith)
        (each_given (rider_weight_checks s) (rider_count s) 0 (λ j h. check_small _ (omega arith) (omega arith) none_given))

    pub records_small : (network s : List ℕ) → Gives (Small limit) (record_checks network s)
    unfolding request_checks
    records_small network s =
        append_given (network_checks network) (network_small network)
        (λ read. append_given (opening_checks request_opening s) (opening_small request_opening s (omega arith) (omega arith) (omega arith))
        (λ opens. append_given (count_checks s) (counts_small s)
        (λ counted. let few = (count_accepted s counted).riders in append_given (node_checks _ s) (nodes_small _ s few)
        (λ placed. weights_small s few))))

  -- Those of the search's checks are numbered up to 23.
  pub search_small : 23 < limit → (network request : List ℕ) (rooms : Lent) → Gives (Small limit) (search_checks network request rooms)
  search_small above network request rooms =
      append_given (record_checks network request) (records_small (omega arith) network request)
      (λ read. three_small (omega arith) (omega arith) (omega arith))
