-- The work table: a row's starts, node by node, and the rows that are filled.
use Prim.Native.Nat.{ℕ, ◌+◌, ◌^◌, ◌<◌}
use mathlib.Core.List.{List}
use native.Mathlib.Omega.{arith}
use lib.ListN.{length, get_or, set}
use lib.Seq.{get_or-set_same, get_or-set_other}
use borrow.Author.Count.{below_more}
use Rattle.rules.specs.Network.{SoundNetwork, node_count}
use Rattle.rules.specs.Request.{SoundValue, rider_count_of}
use Rattle.rules.specs.Rooms.{Table}
use Rattle.rules.specs.declared.Request.{Request}
use Rattle.finish.proofs.Bounds.{least_holds}
use Rattle.table.specs.Filling.{Filled}

-- What holds of the places below one, and of what is stored there, holds of the places up to it.
pub below_set : (P : ℕ → ℕ → Type 0) (t : List ℕ) (v : ℕ) {x : ℕ} → v < length t → ((u : ℕ) → u < v → P u (get_or t u 0)) → P v x
    → (u : ℕ) → u < v + 1 → P u (get_or (set t v x) u 0)
below_set P t v {x} there below here =
    below_more (λ (u : ℕ). P u (get_or (set t v x) u 0)) v
    (λ u h. rw (get_or-set_other t v u x 0 (λ e. absurd (omega arith))) (below u h))
    (rw (get_or-set_same t v x 0 there) here)

pub filled_all : {network : List ℕ} {q : Request} {before t : List ℕ} → SoundNetwork network → SoundValue (node_count network) q
    → Filled network q (2 ^ rider_count_of q) before t → Table network q before t
filled_all sound fits so = record { holds = λ R v h g. least_holds sound fits h g (so.below R v h g); kept = so.kept }
