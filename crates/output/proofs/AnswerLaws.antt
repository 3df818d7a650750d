-- The search's answer, written line by line.
use Prim.Native.Nat.{ℕ, suc, ◌+◌, ◌*◌, ◌≤◌, ◌<◌}
use native.Mathlib.Omega.{arith}
use native.Mathlib.Numerals.{add-one}
use mathlib.Core.Path.{◌≡◌, refl, sym, ◌∙◌, ap, subst, subst⁻¹}
use mathlib.Core.List.{List, [], ◌∷◌, ◌++◌, append-nil, append_assoc}
use lib.ListN.{length, get_or, take, drop, length-append, length-drop}
use lib.Seq.{drop-cons, length-take-le, take-append_seam}
use Rattle.rules.specs.Network.{SoundNetwork, node_count}
use Rattle.rules.specs.Request.{SoundRequest, SoundValue, record_checks, request_verdict, request_value, source}
use Rattle.rules.specs.Plans.{Finish, all_riders}
use Rattle.rules.specs.Answers.{Outcome, gives, refuses, Searched, refused, hopeless, planned}
use Rattle.rules.specs.Program.{line, ok_word, refused_word, step_line, node_after, step_lines, answer_text}
use Rattle.rules.proofs.Clash.{clash}
use Rattle.rules.proofs.Order.{accepted_front}
use Rattle.rules.proofs.SoundRequestLaws.{records_sound, value_sound}
use Rattle.rules.specs.Rooms.{Lent, Put, distance_places, step_places}
use Rattle.output.specs.Text.{text_places}
use Rattle.output.specs.Answered.{Printable, Answered, Stepping}
use Rattle.rules.proofs.PlanLaws.{all_riders_below, few_sets}
use Rattle.rules.specs.Limits.{most_nodes, most_riders}
use Rattle.lines.specs.Limits.{longest_line}
use Rattle.lines.specs.Steps.{Takes, Rides}
use Rattle.lines.proofs.StepLaws.{rides_takes, rides_on}
use Rattle.rules.proofs.PuttingLaws.{put_then}

module _ {network distances : List ℕ} {start : ℕ} {steps : List ℕ} {at : ℕ} {before : List ℕ} where
  module _ {after : List ℕ} {end v i : ℕ} (so : Stepping network distances start steps at before after end v i) where
    module _ (within : i < length steps) where
      left : drop i steps ≡ get_or steps i 0 ∷ drop (suc i) steps
      left = drop-cons steps i 0 within

      next : Rides network v (get_or steps i 0 ∷ drop (suc i) steps)
      next = subst (λ (rest : List ℕ). Rides network v rest) left so.rides

      pub step_takes : {step : ℕ} → step ≡ get_or steps i 0 → Takes network v step
      step_takes e = rw e (rides_takes next)

      -- one line more
      pub stepping_more : {line later : List ℕ} {stop x : ℕ} → line ≡ step_line network distances v (get_or steps i 0)
          → Put end line after later stop → length line ≤ longest_line → x ≡ node_after network v (get_or steps i 0)
          → Stepping network distances start steps at before later stop x (i + 1)
      unfolding step_lines
      stepping_more {line} says put few e =
          record {
            text = so.text ++ line;
            put = put_then so.put put;
            whole =
                rw (e, add-one, says) (append_assoc so.text _ _ ∙ ap
                (λ (rest : List ℕ). so.text ++ step_lines network distances v rest) (sym left) ∙ so.whole);
            rides = rw (e, add-one) (rides_on next);
            short = omega (arith, so.short, length-append so.text line);
          }

    pub stepping_done : length steps ≤ i → Put at (step_lines network distances start steps) before after end
    unfolding step_lines
    stepping_done all = rw (← so.whole, none (drop i steps) (omega (arith, length-drop i steps)), append-nil so.text) so.put
      where
        none : (l : List ℕ) → length l ≤ 0 → l ≡ []
        none [] h = refl
        none (x ∷ xs) h = absurd (omega arith)

-- what the search answers and leaves behind can be answer_text
pub found : {network : List ℕ} (request : List ℕ) {before after : Lent} {answer : Outcome} {cost count : ℕ}
    → Searched network request before after answer → answer ≡ gives (cost ∷ count ∷ [])
    → Printable network request after.steps count
unfolding request_verdict request_value
found request (refused r v e same) is = clash (cc)
found request (hopeless v d t none e same) is = clash (cc)
found {network} request {before} {after} {answer} {cost} {count} (planned plan c v d t right e written) is =
    record {
      long = sounds.1.long;
      within = omega (arith, many, ap length written, length-append plan (drop (length plan) before.steps));
      rides = record {
        sound = sounds.0;
        node = value.starts;
        request = request_value request;
        riders = all_riders (request_value request);
        cost = c;
        few = few_sets value.riders (all_riders_below (request_value request));
        finish =
            subst⁻¹ (λ (steps : List ℕ). Finish network (request_value request) (all_riders (request_value request)) (source request)
            steps c) taken right.best.finishes;
      };
    }
  where
    sounds : SoundNetwork network × SoundRequest (node_count network) request
    sounds = records_sound network request (accepted_front (record_checks network request) _ v)

    value : SoundValue (node_count network) (request_value request)
    value = value_sound (node_count network) request sounds.1

    many : count ≡ length plan
    many = cc

    taken : take count after.steps ≡ plan
    taken = ap (λ (k : ℕ). take k after.steps) many ∙ ap (take (length plan)) written ∙ take-append_seam plan (drop (length plan) before.steps)

pub answered : {network : List ℕ} (request : List ℕ) {before after : Lent} {answer : Outcome}
    → distance_places most_nodes most_riders ≤ length after.distances → length after.steps ≤ step_places most_nodes most_riders
    → Searched network request before after answer → Answered network request after.distances after.steps answer
answered request room few searched = record { room = room; few = few; found = λ cost count e. found request searched e }

module _ (network distances steps : List ℕ) (source : ℕ) (answer : Outcome) {before after : List ℕ} {end : ℕ} where
  pub put_refused : {number place : ℕ} {l : List ℕ} → answer ≡ refuses number place → l ≡ line refused_word (number ∷ place ∷ [])
      → Put 0 l before after end → Put 0 (answer_text network source answer distances steps) before after end
  unfolding answer_text
  put_refused e says put = rw (e, ← says) put

  pub put_planned : {cost count mid x : ℕ} {between l : List ℕ} → answer ≡ gives (cost ∷ count ∷ [])
      → l ≡ line ok_word (cost ∷ count ∷ []) → Put 0 l before between mid → x ≡ source
      → Put mid (step_lines network distances x (take count steps)) between after end
      → Put 0 (answer_text network source answer distances steps) before after end
  unfolding answer_text
  put_planned {count = count} e says put starts behind =
      rw e (subst (λ (front : List ℕ). Put 0 (front ++ step_lines network distances source (take count steps)) before after end)
      says (put_then put (rw starts at behind)))

-- The line of the plan leaves room for those of its steps.
pub steps_room : {count mid : ℕ} (steps : List ℕ) {line before between : List ℕ} → count ≤ length steps
    → length steps ≤ step_places most_nodes most_riders → length line ≤ longest_line → Put 0 line before between mid
    → text_places ≤ length before → mid + longest_line * length (take count steps) ≤ length between
steps_room {count} steps within few short put room = omega (arith, put.ends, put.size, length-take-le count steps within)
