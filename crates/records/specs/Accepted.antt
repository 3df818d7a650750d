-- Records that the readers accept, as values: what is known of one goes with it.
use Rattle.std.specs.Prelude.{ℕ, List, Result, Ok, Err}
use Rattle.rules.specs.Network.{SoundNetwork, node_count}
use Rattle.rules.specs.Request.{SoundValue}
use Rattle.rules.specs.declared.Request.{Request}
use Rattle.rules.specs.declared.refusal.Refusal.{Refusal}
use Rattle.rules.specs.Checks.{Verdict}

-- A network record, and that it is sound.
pub record Accepted : Type 0 where
  pub bytes : List ℕ
  pub sound : SoundNetwork bytes

-- A network record and the value of a request for it, and that both are sound.
pub record AcceptedPair : Type 0 where
  pub network : List ℕ
  pub sound : SoundNetwork network
  pub request : Request
  pub fits : SoundValue (node_count network) request

-- the verdict of what reads a record
abbrev pub verdict_of : {A : Type 0} → Result A Refusal → Verdict
verdict_of (Ok value) = Ok tt
verdict_of (Err r) = Err r
