-- Text in a room.
use Rattle.std.specs.Prelude.{ℕ, ◌+◌, ◌*◌, ◌<◌, ◌≤◌, ◌≡◌, List, length}
use Rattle.rules.specs.Program.{PlanText, ProgramText}
use Rattle.rules.specs.Rooms.{Written, Put, step_places}
use Rattle.rules.specs.Limits.{most_nodes, most_riders}
use Rattle.lines.specs.Limits.{longest_line}

-- one line for the plan and one for each of its steps
abbrev pub text_places : ℕ
text_places = longest_line * (step_places most_nodes most_riders + 1)

-- The text of the program for two records was written at the start of the room.
pub record PutPlan (network request before after : List ℕ) (end : ℕ) : Type 0 where
  pub text : List ℕ
  pub tells : PlanText network request text
  pub put : Put 0 text before after end

-- What the program prints is written at the start of the room, and its length is told; a room of too few places is left as it was,
-- and 0 is told, which is no text's length.
pub data Printed (input before after : List ℕ) (count : ℕ) : Type 0 where
  short : length before < text_places → after ≡ before → count ≡ 0 → Printed input before after count
  whole : (text : List ℕ) → text_places ≤ length before → ProgramText input text → Written text before after → count ≡ length text
      → Printed input before after count
