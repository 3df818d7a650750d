-- What a request gives once it is read.
use Prim.Native.Nat.{ℕ, ◌≤◌}
use native.Mathlib.Omega.{arith}
use mathlib.Core.Path.{◌≡◌, refl, sym, ◌∙◌}
use mathlib.Core.List.{List}
use Rattle.rules.specs.Checks.{beside, Verdict, Accepted}
use Rattle.rules.specs.Limits.{most_riders}
use Rattle.rules.specs.Request.{request_verdict, request_value, no_request, request_of, rider_count_of}
use Rattle.rules.specs.declared.RequestRead.{RequestRead}
use Rattle.rules.proofs.SoundRequestLaws.{records_sound}
use Rattle.std.specs.Prelude.{Ok, Err}

-- what a read request says: its verdict, and beside an accepted one its value
module _ (network s : List ℕ) {r : RequestRead} (is : r ≡ request_of network s) where
  pub request_verdict_read : r.verdict ≡ request_verdict network s
  unfolding request_of
  request_verdict_read = rw is

  module _ (accepted : r.verdict ≡ Accepted) where
    pub request_accepted : request_verdict network s ≡ Accepted
    request_accepted = sym request_verdict_read ∙ accepted

    pub read_value : r.request ≡ request_value s
    unfolding request_of
    read_value = rw (is, request_accepted)

-- no request that is handed back has more riders than places
pub few_riders : (network s : List ℕ) → rider_count_of (request_of network s).request ≤ most_riders
unfolding request_of request_value no_request
few_riders network s = go (request_verdict network s) refl
  where
    go : (v : Verdict) → request_verdict network s ≡ v → rider_count_of (beside v (request_value s) no_request) ≤ most_riders
    go (Ok _) e = (records_sound network s e).1.riders
    go (Err r) e = omega arith
