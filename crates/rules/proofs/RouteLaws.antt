-- The nodes that a list of links passes.
use Prim.Native.Nat.{ℕ, zero, suc, ◌<◌}
use mathlib.Core.List.{List, [], ◌∷◌}
use native.Mathlib.Omega.{arith}
use lib.ListN.{length, get_or}
use Rattle.rules.specs.Network.{SoundNetwork, node_count, link_count, to}
use Rattle.rules.specs.Walks.{Leads, Way, arrived, along}
use Rattle.rules.specs.Routes.{node_at}

-- The links are links of the network.
abbrev pub KnownLinks : List ℕ → List ℕ → Type 0
KnownLinks network route = (i : ℕ) → i < length route → get_or route i 0 < link_count network

-- Those of a way are.
pub way_known : {network : List ℕ} {cost : ℕ → ℕ} {v u c : ℕ} {links : List ℕ} → Way (Leads network cost) v u links c → KnownLinks network links
way_known (arrived here free) i h = absurd (omega arith)
way_known (along x w rest link way e) zero h = link.exists
way_known (along x w rest link way e) (suc i) h = way_known way i (omega arith)

-- From a node on, known links pass nodes of the network.
pub node_below : {network : List ℕ} {v : ℕ} (route : List ℕ) → SoundNetwork network → v < node_count network → KnownLinks network route
    → (position : ℕ) → node_at network v route position < node_count network
unfolding node_at
node_below route sound h known zero = h
node_below [] sound h known (suc position) = h
node_below {network = network} (k ∷ route) sound h known (suc position) =
    node_below {v = to network k} route sound (sound.ends k (known 0 (omega arith))) (λ i g. known (suc i) (omega arith)) position
