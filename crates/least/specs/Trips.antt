-- Trips over arcs, and their sums.
use Rattle.std.specs.Prelude.{ℕ, suc, ◌+◌, ◌≤◌, ◌<◌, ◌≡◌, List, get_or}

-- `Arc u v w`: an arc of weight w from u to v.
abbrev pub Arcs : Type 1
Arcs = ℕ → ℕ → ℕ → Type 0

-- `Init u c`: at u one can be done for c.
abbrev pub Inits : Type 1
Inits = ℕ → ℕ → Type 0

-- A trip from u goes on over arcs until it is done; its sum is what all of that takes.
pub data Trip (Arc : Arcs) (Init : Inits) : ℕ → ℕ → Type 0 where
  done : {u sum : ℕ} → Init u sum → Trip Arc Init u sum
  step : {u sum : ℕ} (v w rest : ℕ) → Arc u v w → Trip Arc Init v rest → sum ≡ w + rest → Trip Arc Init u sum

-- the number of a trip's arcs
unfoldable pub arc_count : {Arc : Arcs} {Init : Inits} {u sum : ℕ} → Trip Arc Init u sum → ℕ
arc_count (done i) = 0
arc_count (step v w rest a t e) = suc (arc_count t)

-- A list gives a start to every node: at u one can be done for the value at place u.
pub record Starts (values : List ℕ) (u c : ℕ) : Type 0 where
  pub value : c ≡ get_or values u 0

-- A single start: at this node one can be done for 0.
abbrev pub At : ℕ → Inits
At node u c = (u ≡ node) × (c ≡ 0)

-- From nodes below n, arcs lead to nodes below n.
abbrev pub Inside : ℕ → Arcs → Type 0
Inside n Arc = (u v w : ℕ) → u < n → Arc u v w → v < n

-- A trip from u of fewer than n arcs, whose sum and number of arcs are at most those given.
pub record Shortened (Arc : Arcs) (Init : Inits) (n u most count : ℕ) : Type 0 where
  pub sum : ℕ
  pub trip : Trip Arc Init u sum
  pub cheap : sum ≤ most
  pub fewer : arc_count trip ≤ count
  pub short : arc_count trip < n
