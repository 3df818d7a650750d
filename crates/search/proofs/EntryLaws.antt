-- The entry's refusals, in the order of its checks.
use Prim.Native.Nat.{ℕ}
use mathlib.Core.Path.{◌≡◌, refl, ◌∙◌}
use mathlib.Core.List.{List}
use lib.ListN.{length}
use Rattle.std.specs.Prelude.{Err}
use Rattle.rules.specs.Checks.{Check, Accepted, first_of}
use Rattle.rules.specs.Network.{node_count, network_checks, network_verdict}
use Rattle.rules.specs.Request.{record_checks, request_checks, request_value, rider_count_of}
use Rattle.rules.specs.Rooms.{Lent}
use Rattle.rules.specs.Answers.{Outcome, refusal_outcome, Searched, Searching, room_checks, search_checks, refused}
use Rattle.rules.specs.declared.refusal.Refusal.{Refusal}
use Rattle.rules.proofs.Order.{then, in_order}

abbrev pub rooms_of : List ℕ → List ℕ → Lent → List Check
rooms_of network request rooms =
    room_checks (node_count network) (rider_count_of (request_value request)) (length rooms.distances) (length rooms.table) (length rooms.steps)

-- The search's checks are those of the network, of the request and of the rooms, in turn.
module _ (network request : List ℕ) (before : Lent) where
  turns : first_of (search_checks network request before) ≡ then (then (network_verdict network) (first_of (request_checks (node_count network) request)))
      (first_of (rooms_of network request before))
  unfolding network_verdict
  turns = rw (in_order (record_checks network request), in_order (network_checks network))

  -- A refusal leaves the rooms as they were.
  pub network_refused : {r : Refusal} → Err r ≡ network_verdict network → Searched network request before before (refusal_outcome r)
  network_refused {r = r} told = refused r (turns ∙ rw (← told)) refl refl

  module _ (sound : Accepted ≡ network_verdict network) where
    pub request_refused : {r : Refusal} → Err r ≡ first_of (request_checks (node_count network) request)
        → Searched network request before before (refusal_outcome r)
    request_refused {r = r} told = refused r (turns ∙ rw (← sound, ← told)) refl refl

    module _ (asked : Accepted ≡ first_of (request_checks (node_count network) request)) where
      pub rooms_refused : {r : Refusal} → Err r ≡ first_of (rooms_of network request before) → Searched network request before before (refusal_outcome r)
      rooms_refused {r = r} told = refused r (turns ∙ rw (← sound, ← asked, ← told)) refl refl

      -- Past all checks it ends as the search in these rooms does.
      pub searched : {after : Lent} {answer : Outcome} → Accepted ≡ first_of (rooms_of network request before)
          → Searching Accepted network (request_value request) before after answer → Searched network request before after answer
      searched told so = rw (turns, ← sound, ← asked, ← told) so
