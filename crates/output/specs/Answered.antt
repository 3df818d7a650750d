-- What must be known of the search's answer to write it, and what is known while its steps are written.
use Rattle.std.specs.Prelude.{ℕ, ◌*◌, ◌≤◌, ◌≡◌, List, [], ◌∷◌, ◌++◌, length, take, drop}
use Rattle.rules.specs.Request.{source}
use Rattle.rules.specs.Answers.{Outcome, gives}
use Rattle.rules.specs.Program.{step_lines}
use Rattle.rules.specs.Limits.{most_nodes, most_riders}
use Rattle.rules.specs.Rooms.{Put, distance_places, step_places}
use Rattle.lines.specs.Steps.{Rides}
use Rattle.lines.specs.Limits.{longest_line}

-- A plan was found: its request has a source, its steps lie within their room, and the bus rides them from the source.
pub record Printable (network request steps : List ℕ) (count : ℕ) : Type 0 where
  pub long : 9 ≤ length request
  pub within : count ≤ length steps
  pub rides : Rides network (source request) (take count steps)

pub record Answered (network request distances steps : List ℕ) (answer : Outcome) : Type 0 where
  pub room : distance_places most_nodes most_riders ≤ length distances
  pub few : length steps ≤ step_places most_nodes most_riders
  pub found : (cost count : ℕ) → answer ≡ gives (cost ∷ count ∷ []) → Printable network request steps count

-- The lines of the first i steps were written, the bus stands at v, and what is left gives the whole.
pub record Stepping (network distances : List ℕ) (start : ℕ) (steps : List ℕ) (at : ℕ) (before after : List ℕ) (end v i : ℕ) : Type 0 where
  pub text : List ℕ
  pub put : Put at text before after end
  pub whole : text ++ step_lines network distances v (drop i steps) ≡ step_lines network distances start steps
  pub rides : Rides network v (drop i steps)
  pub short : length text ≤ longest_line * i
