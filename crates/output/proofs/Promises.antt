-- What the program prints leaves one result.
use Prim.Native.Nat.{ℕ, ◌<◌}
use native.Mathlib.Omega.{arith}
use mathlib.Core.Path.{◌≡◌, sym, ◌∙◌, ap}
use mathlib.Core.List.{List}
use lib.ListN.{length}
use Rattle.rules.specs.Request.{source}
use Rattle.rules.specs.Answers.{Outcome, gives, refuses}
use Rattle.rules.specs.Program.{answer_text, PlanText, request_part}
use Rattle.rules.proofs.AnswerLaws.{searched_unique}
use Rattle.output.specs.Text.{Printed, short, whole}

-- Two records have one text: the search has one answer, and leaves one thing behind.
pub text_unique : {network : List ℕ} (request : List ℕ) {a b : List ℕ} → PlanText network request a → PlanText network request b → a ≡ b
text_unique {network} request x y =
    let (after, answer) = searched_unique request x.searched y.searched in
    x.says ∙ rw (after, answer) (sym y.says)

pub printed_unique : {input before a b : List ℕ} {k l : ℕ} → Printed input before a k → Printed input before b l → (a ≡ b) × (k ≡ l)
printed_unique (short h same none) (short g also nothing) = (cc, cc)
printed_unique (short h same none) (whole t g tells writes counts) = absurd (omega arith)
printed_unique (whole t g tells writes counts) (short h same none) = absurd (omega arith)
printed_unique {input} {before} (whole t g tells writes counts) (whole u h says put sizes) =
    let same = text_unique (request_part input) tells says in
    (writes ∙ rw same (sym put), counts ∙ ap length same ∙ sym sizes)

-- No text is empty: it begins with a word. So 0 is told of a room that is too small, and of nothing else.
pub some_text : {network request text : List ℕ} → PlanText network request text → 0 < length text
unfolding answer_text
some_text {network} {request} t = omega (arith, ap length t.says, begins t.answer)
  where
    begins : (answer : Outcome) → 0 < length (answer_text network (source request) answer t.after.distances t.after.steps)
    begins (gives values) = omega arith
    begins (refuses number place) = omega arith
