-- Each reader's promise leaves one result, and the wrong answers that it shuts out.
use Prim.Native.Nat.{ℕ, ◌+◌}
use native.Mathlib.Omega.{arith}
use mathlib.Core.Path.{◌≡◌, refl, sym, ◌∙◌, ap}
use mathlib.Core.Logic.{◌≢◌}
use mathlib.Core.List.{List, [], ◌∷◌}
use lib.ListN.{get_or, set}
use denote.Ref.{Bor}
use Rattle.rules.specs.Checks.{refuse, first_of, each, Accepted}
use Rattle.rules.specs.Numbers.{number, bytes_of, twos_of}
use Rattle.rules.specs.Network.{opening_checks, size_checks, network_checks, network_verdict, network_of, LinkPart}
use Rattle.rules.specs.Request.{count_checks, node_checks, weight_checks, request_checks, request_verdict, seven_places, request_value, no_request, request_of}
use Rattle.rules.specs.Request.{riders_from}
use Rattle.rules.specs.Answers.{verdict_outcome}
use Rattle.rules.specs.Town.{town, request, rider, case_a}
use Rattle.rules.specs.declared.NetworkRead.{NetworkRead}
use Rattle.rules.specs.declared.RequestRead.{RequestRead}
use Rattle.rules.proofs.AnswerLaws.{part_unique, refuses_same}
use Rattle.rules.specs.declared.refusal.Fault.TheVariants.{LinkNode, RequestNode, RequestWeight}
use Rattle.std.specs.Prelude.{Err}

-- ---- any two results agree
pub network_settled : (s : List ℕ) (a b : NetworkRead) → a ≡ network_of s → b ≡ network_of s → a ≡ b
network_settled s a b p q = p ∙ sym q

pub request_settled : (network s : List ℕ) (a b : RequestRead) → a ≡ request_of network s → b ≡ request_of network s → a ≡ b
request_settled network s a b p q = p ∙ sym q

pub link_settled : (network : Bor (List ℕ)) (k : ℕ) (a b : Bor (List ℕ)) → LinkPart network k a → LinkPart network k b
    → (a.ref_ptr ≡ b.ref_ptr) × (a.now ≡ b.now)
link_settled network k a b p q = part_unique p q

-- ---- case A is read
-- its value, with a node at the place of rider 1, whom it does not have
abbrev read_a : ℕ → RequestRead
read_a stray =
    record {
      verdict = Accepted;
      request = record {
        source = 0;
        target = 3;
        bus_weight = 1;
        rider_count = 1;
        nodes = 4 ∷ stray ∷ 0 ∷ 0 ∷ 0 ∷ 0 ∷ 0 ∷ [];
        weights = 1 ∷ 0 ∷ 0 ∷ 0 ∷ 0 ∷ 0 ∷ 0 ∷ [];
      };
    }

pub request_read : request_of town case_a ≡ read_a 0
unfolding network_checks opening_checks size_checks number first_of each
    request_of request_verdict request_checks count_checks node_checks weight_checks request_value seven_places bytes_of twos_of riders_from
request_read = refl

-- ---- wrong answers to a network whose links 1 and 3 end at node 9
abbrev pub bad_town : List ℕ
bad_town = set (set town 20 9) 36 9

bad_town_read : network_of bad_town ≡ record { verdict = Err (refuse LinkNode 1); n = 0; m = 0 }
unfolding network_of network_verdict network_checks opening_checks size_checks number first_of each bytes_of twos_of
bad_town_read = refl

pub not_the_highest_link : record { verdict = Err (refuse LinkNode 3); n = 0; m = 0 } ≡ network_of bad_town → ⊥
not_the_highest_link e =
    let place : ◌≡◌ {A = ℕ} 3 1 = (refuses_same (ap (λ (r : NetworkRead). verdict_outcome r.verdict) (e ∙ bad_town_read))).1 in
    omega arith

pub not_with_its_sizes : record { verdict = Err (refuse LinkNode 1); n = 5; m = 8 } ≡ network_of bad_town → ⊥
not_with_its_sizes e =
    let nodes : ◌≡◌ {A = ℕ} 5 0 = ap (λ (r : NetworkRead). r.n) (e ∙ bad_town_read) in
    omega arith

-- ---- wrong answers to a request with a bad node and a bad weight, and to case A
abbrev pub bad_request : List ℕ
bad_request = request 0 3 101 (rider 9 1)

bad_request_read : request_of town bad_request ≡ record { verdict = Err (refuse RequestNode 2); request = no_request }
unfolding network_checks opening_checks size_checks number first_of each
    request_of request_verdict request_checks count_checks node_checks weight_checks no_request seven_places bytes_of twos_of riders_from
bad_request_read = refl

pub not_the_weight_first : record { verdict = Err (refuse RequestWeight 0); request = no_request } ≡ request_of town bad_request → ⊥
not_the_weight_first e =
    let number : ◌≡◌ {A = ℕ} 17 16 = (refuses_same (ap (λ (r : RequestRead). verdict_outcome r.verdict) (e ∙ bad_request_read))).0 in
    omega arith

pub not_with_a_stray_rider : read_a 4 ≡ request_of town case_a → ⊥
not_with_a_stray_rider e =
    let node : ◌≡◌ {A = ℕ} 4 0 = ap (λ (r : RequestRead). get_or r.request.nodes 1 0) (e ∙ request_read) in
    omega arith

-- ---- wrong answers for a link: other memory than the record's; and, for link 2 of the town, a wrong place
pub not_a_copy : {network part : Bor (List ℕ)} (k : ℕ) → part.ref_ptr.0 ≢ network.ref_ptr.0 → LinkPart network k part → ⊥
not_a_copy k other so = other so.memory

module _ (block place : ℕ) where
  abbrev pub whole : Bor (List ℕ)
  whole = record { ref_ptr = (block, place); now = town }

  pub not_the_next_link : (part : Bor (List ℕ)) → LinkPart whole 2 part → part.ref_ptr.1 ≡ place + 33 → ⊥
  unfolding network_of network_verdict network_checks opening_checks size_checks number first_of each bytes_of twos_of
  not_the_next_link part so e = omega (arith, so.place)
