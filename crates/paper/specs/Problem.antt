-- The problem of source document 000 in its own terms: an undirected graph with weights, paths and their cost c, shortest paths, and
-- equations (1) to (3).
use Rattle.std.specs.Prelude.{ℕ, ◌+◌, ◌≤◌, ◌<◌, ◌≡◌}
use mathlib.Core.List.{List, [], ◌∷◌, Memᴰ}
use Rattle.rules.specs.Routes.{sum}
use Rattle.paper.specs.Fraction.{Fraction, times, plus, one_minus, AtMost}

-- `Edge u v w`: an edge of weight w joins u and v.
pub record Graph : Type 1 where
  pub Edge : ℕ → ℕ → ℕ → Type 0
  pub undirected : (u v w : ℕ) → Edge u v w → Edge v u w

-- Edges that join the same nodes have the same weight, so that it is a function w(u, v).
abbrev pub OneWeight : Graph → Type 0
OneWeight G = (u v w x : ℕ) → G.Edge u v w → G.Edge u v x → w ≡ x

-- A path from s to t, not necessarily a simple one: P lists its nodes behind s, and c(P) is c, the sum of the weights of its edges.
pub data Path (G : Graph) (t : ℕ) : ℕ → List ℕ → ℕ → Type 0 where
  stays : {s c : ℕ} → s ≡ t → c ≡ 0 → Path G t s [] c
  goes : {s v c : ℕ} {P : List ℕ} (w rest : ℕ) → G.Edge s v w → Path G t v P rest → c ≡ w + rest → Path G t s (v ∷ P) c

-- dist(u, v) is d: what a shortest path there costs.
pub record Dist (G : Graph) (u v d : ℕ) : Type 0 where
  pub nodes : List ℕ
  pub path : Path G v u nodes d
  pub shortest : (others : List ℕ) (c : ℕ) → Path G v u others c → d ≤ c

-- (1): d(u, nodes) is d, the least dist(u, v) to one of the nodes; one at that distance is the meeting point.
pub record NodeRoute (G : Graph) (u : ℕ) (nodes : List ℕ) (d : ℕ) : Type 0 where
  pub meeting : ℕ
  pub passed : Memᴰ meeting nodes
  pub reached : Dist G u meeting d
  pub least : (v e : ℕ) → Memᴰ v nodes → Dist G u v e → d ≤ e

-- A query (s, t, U, α): U is the nodes U 0 .. U (l - 1), and α lies between 0 and 1.
pub record Query : Type 0 where
  pub s : ℕ
  pub t : ℕ
  pub l : ℕ
  pub U : ℕ → ℕ
  pub alpha : Fraction
  pub above : 0 < alpha.top
  pub below : alpha.top < alpha.bottom

-- α × c + (1 - α) × d
abbrev pub average : Fraction → ℕ → ℕ → Fraction
average alpha c d = plus (times alpha c) (times (one_minus alpha) d)

-- (2): P is a path from s to t, and f(P) is f: the average of c(P) and d(U, nodes of the path), which is the sum of d(u, nodes of the
-- path) over U.
pub record Cost (G : Graph) (query : Query) (P : List ℕ) (f : Fraction) : Type 0 where
  pub c : ℕ
  pub d : ℕ → ℕ
  pub path : Path G query.t query.s P c
  pub near : (j : ℕ) → j < query.l → NodeRoute G (query.U j) (query.s ∷ P) (d j)
  pub averages : f ≡ average query.alpha c (sum query.l d)

-- (3), Definition 2.1: no path from s to t has a smaller f.
pub record Optimal (G : Graph) (query : Query) (P : List ℕ) (f : Fraction) : Type 0 where
  pub costs : Cost G query P f
  pub least : (other : List ℕ) (g : Fraction) → Cost G query other g → AtMost f g
