-- The search of a case that holds: what it must answer and leave.
use Prim.Native.Nat.{ℕ, ◌+◌, ◌*◌, ◌≤◌, ◌<◌}
use mathlib.Core.Path.{◌≡◌, refl, sym, ap, ◌∙◌}
use mathlib.Core.Logic.{◌≢◌}
use mathlib.Core.List.{List}
use lib.ListN.{length, get_or, take, drop, length-append, length-drop, length-replicate, get_or-append}
use lib.Seq.{take-append_seam, drop-append_seam}
use native.Mathlib.Nat.{le_refl}
use native.Mathlib.Omega.{arith}
use Rattle.rules.specs.Checks.{first_of, Accepted}
use Rattle.rules.specs.Request.{request_verdict, record_checks}
use Rattle.rules.specs.Routes.{RiderHolds}
use Rattle.rules.specs.Rooms.{Kept, Distances, HoldsFinish, Table, Lent}
use Rattle.rules.specs.Answers.{Outcome, search_checks, hopeless, planned}
use Rattle.rules.proofs.Clash.{clash}
use Rattle.rules.proofs.Order.{front_passed}
use Rattle.rules.proofs.RoomLaws.{place_within, rooms_enough}
use Rattle.rules.proofs.AnswerLaws.{searched_unique}
use Rattle.cases.specs.Cases.{Result, plan, none, Case, asked, Right, Holds}
use Rattle.cases.specs.Searches.{answer_of, steps_of, EnoughFor, zeros, over, leaves, SearchedCase, Fails}

-- Values laid over a room from its start on: later places are kept, and each place of a row holds its value.
over_kept : {count : ℕ} (values room : List ℕ) → length values ≡ count → count ≤ length room → Kept count room (over values room)
over_kept values room e h =
    record {
      size = simp (length-append, length-drop) (omega arith);
      later = rw (← e) (drop-append_seam values (drop (length values) room));
    }

over_holds : (P : ℕ → ℕ → ℕ → Type 0) {rows n j v : ℕ} (values room : List ℕ) → length values ≡ rows * n → j < rows → v < n
    → P j v (get_or values (j * n + v) 0) → P j v (get_or (over values room) (j * n + v) 0)
over_holds P {n = n} {j} {v} values room size h g p =
    let inside : j * n + v < length values = rw size (place_within h g) in
    rw (get_or-append values (drop (length values) room) 0 (j * n + v) inside) p

pub zeros_enough : (c : Case) → EnoughFor c (zeros c)
zeros_enough c =
    record { distances = rw length-replicate (le_refl _); table = rw length-replicate (le_refl _); steps = rw length-replicate (le_refl _) }

module _ {c : Case} (holds : Holds c) {before : Lent} (enough : EnoughFor c before) where
  search_accepted : first_of (search_checks c.network c.request before) ≡ Accepted
  unfolding request_verdict
  search_accepted = front_passed (record_checks c.network c.request) _ holds.accepted ∙ rooms_enough _ _ before enough

  distances_filled : Distances c.network (asked c) before.distances (leaves c before).distances
  distances_filled =
      let size = holds.distance_size in
      record {
        holds = λ j v h g. over_holds (RiderHolds c.network (asked c)) c.distances before.distances size h g (holds.distances j v h g);
        kept = over_kept c.distances before.distances size enough.distances;
      }

  table_filled : Table c.network (asked c) before.table (leaves c before).table
  table_filled =
      let size = holds.table_size in
      record {
        holds = λ R v h g. over_holds (HoldsFinish c.network (asked c)) c.table before.table size h g (holds.table R v h g);
        kept = over_kept c.table before.table size enough.table;
      }

  -- A search of the case can end as the case says,
  case_search : (o : Result) → o ≡ c.result → Right c.network (asked c) o → SearchedCase c before (leaves c before) (answer_of o)
  case_search (plan cost steps) e right = planned steps cost search_accepted distances_filled table_filled right refl (rw (← e))
  case_search none e right = hopeless search_accepted distances_filled table_filled right refl (rw (← e))

  -- and in no other way.
  pub searched_case : {after : Lent} {answer : Outcome} → SearchedCase c before after answer
      → (after ≡ leaves c before) × (answer ≡ answer_of c.result)
  searched_case s = searched_unique c.request s (case_search c.result refl holds.result)

-- An answer and the steps written with it tell the result.
result_told : (a b : Result) (room : List ℕ) → answer_of a ≡ answer_of b → over (steps_of a) room ≡ over (steps_of b) room → a ≡ b
result_told (plan c xs) (plan d ys) room e f =
    let size : length xs ≡ length ys = cc in
    let steps : xs ≡ ys =
    sym (take-append_seam xs (drop (length xs) room)) ∙ ap (take (length xs)) f ∙ rw size (take-append_seam ys (drop (length ys) room)) in
    cc
result_told (plan c xs) none room e f = clash (cc)
result_told none (plan d ys) room e f = clash (cc)
result_told none none room e f = refl

-- So it ends with no other result.
pub fails : {c : Case} (wrong : Result) → Holds c → wrong ≢ c.result → Fails c wrong
fails {c} wrong holds other before after enough s written =
    let (rooms, answer) = searched_case holds enough s in
    other (result_told wrong c.result before.steps answer (sym written ∙ ap (λ (l : Lent). l.steps) rooms))
