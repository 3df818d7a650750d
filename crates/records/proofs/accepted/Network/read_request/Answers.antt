-- An accepted request is as long as its riders ask, and its value is sound.
use native.Mathlib.Nat.{le_of_eq}
use mathlib.Core.Path.{◌≡◌, sym, ◌∙◌}
use Prim.Native.Nat.{ℕ}
use mathlib.Core.List.{List}
use Rattle.rules.specs.Checks.{first_of, Verdict, Accepted}
use Rattle.rules.specs.Request.{SoundRequest, request_checks}
use Rattle.rules.proofs.SoundRequestLaws.{request_sound, value_sound}
use Rattle.records.proofs.accepted.Network.read_request.Goals as goal

sound : {n count : ℕ} {request : List ℕ} {verdict : Verdict} → count ≡ n → verdict ≡ first_of (request_checks count request) → verdict ≡ Accepted
    → SoundRequest n request
sound counted told passes = request_sound _ _ (rw counted at (sym told ∙ passes))

pub request_value-requires : goal.request_value-requires
request_value-requires c =
    let so = sound c.node_count.ensures.value c.own_verdict.ensures (c.in_ok-own_verdict.was) in
    (so.riders, le_of_eq (sym so.whole))

pub returns-clause-value : goal.returns-clause-value
returns-clause-value c =
    (c.request_value.ensures, rw c.request_value.ensures (value_sound _ _ (sound c.node_count.ensures.value c.own_verdict.ensures (c.in_ok-own_verdict.was))))
