-- Each writer's promise leaves one result, and the wrong answers that it shuts out.
use Prim.Native.Nat.{ℕ}
use native.Mathlib.Omega.{arith}
use mathlib.Core.Path.{◌≡◌, refl}
use mathlib.Core.List.{List, [], ◌∷◌}
use Rattle.rules.specs.declared.refusal.Refusal.{Refusal}
use Rattle.rules.specs.Checks.{first_of, each}
use Rattle.rules.specs.Limits.{closed}
use Rattle.rules.specs.Numbers.{bytes_of, twos_of}
use Rattle.rules.specs.Request.{seven_places, riders_from}
use Rattle.rules.specs.Answers.{Outcome, gives, refuses, number_outcome}
use Rattle.rules.specs.Town.{link, case_a}
use Rattle.rules.specs.Writing.{link_list_checks, network_number_checks, NetworkWritten, value_checks}
use Rattle.rules.specs.Writing.{request_number_checks, RequestWritten}
use Rattle.rules.specs.declared.Request.{Request}
use Rattle.rules.proofs.AnswerLaws.{write_settled, refuses_same}
use Rattle.std.specs.Prelude.{Result}

-- ---- any two results agree
module _ {before a b : List ℕ} {x y : (Result ℕ Refusal)} where
  pub network_write_settled : (n : ℕ) (numbers : List ℕ) → NetworkWritten n numbers before a (number_outcome x)
      → NetworkWritten n numbers before b (number_outcome y) → (a ≡ b) × (x ≡ y)
  network_write_settled n numbers p q = write_settled p q

  pub request_write_settled : (n : ℕ) (q : Request) → RequestWritten n q before a (number_outcome x)
      → RequestWritten n q before b (number_outcome y) → (a ≡ b) × (x ≡ y)
  request_write_settled n q p r = write_settled p r

-- ---- case A as bytes
pub case_A_bytes : case_a ≡ 1 ∷ 0 ∷ 12 ∷ 0 ∷ 0 ∷ 0 ∷ 3 ∷ 1 ∷ 1 ∷ 0 ∷ 4 ∷ 1 ∷ []
unfolding bytes_of seven_places riders_from
case_A_bytes = refl

-- ---- a link that is closed to walkers, in a room of a byte more than its record
abbrev pub closed_to_walkers : List ℕ
closed_to_walkers = link 0 2 5 closed

pub closed_written : {before after : List ℕ} {answer : Outcome} (byte : ℕ) → before ≡ 9 ∷ 9 ∷ 9 ∷ 9 ∷ 9 ∷ 9 ∷ 9 ∷ 9 ∷ 9 ∷ 9 ∷ 9 ∷ 9 ∷ 9 ∷ 9 ∷ 9 ∷ 9 ∷ 9 ∷ byte ∷ []
    → NetworkWritten 3 closed_to_walkers before after answer
    → (answer ≡ gives (17 ∷ []))
    × (after ≡ 1 ∷ 0 ∷ 0 ∷ 0 ∷ 17 ∷ 0 ∷ 3 ∷ 0 ∷ 1 ∷ 0 ∷ 0 ∷ 0 ∷ 2 ∷ 0 ∷ 5 ∷ 255 ∷ 255 ∷ byte ∷ [])
unfolding first_of each network_number_checks link_list_checks bytes_of twos_of
closed_written byte is so = (rw is at so.answers, rw is at so.written)

-- ---- wrong answers to a value with a bad node and a bad weight
abbrev pub bad_value : Request
bad_value =
    record {
      source = 9;
      target = 0;
      bus_weight = 101;
      rider_count = 0;
      nodes = seven_places (λ j. 0) 0;
      weights = seven_places (λ j. 0) 0;
    }

pub not_the_node_first : {before after : List ℕ} → RequestWritten 5 bad_value before after (refuses 82 0) → ⊥
unfolding first_of request_number_checks value_checks
not_the_node_first so = let same : ◌≡◌ {A = ℕ} 82 81 = (refuses_same so.answers).0 in omega arith
