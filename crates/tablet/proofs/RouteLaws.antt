-- A route as bytes: link by link into an array, and the list that the rules mean.
use Prim.Native.Nat.{ℕ, zero, suc, ◌+◌, ◌*◌, ◌/◌, ◌<◌}
use native.Mathlib.Omega.{arith}
use native.Mathlib.Nat.{zero-add, add-zero}
use mathlib.Core.Path.{◌≡◌, refl, sym, ◌∙◌, ap}
use mathlib.Core.List.{List, []}
use lib.ListN.{length, get_or}
use lib.Seq.{ext_get_or}
use Rattle.std.specs.Prelude.{Err}
use Rattle.rules.specs.Numbers.{two}
use Rattle.rules.specs.Checks.{first_of}
use Rattle.rules.specs.Answers.{links_from, route_of, refused, refusal_outcome, tablet_checks, TabletPriced}
use Rattle.rules.specs.declared.refusal.Refusal.{Refusal}

links_size : (bytes : List ℕ) (count first : ℕ) → length (links_from bytes count first) ≡ count
unfolding links_from
links_size bytes zero first = refl
links_size bytes (suc count) first = ap suc (links_size bytes count (suc first))

links_at : (bytes : List ℕ) (count first i : ℕ) → i < count → get_or (links_from bytes count first) i 0 ≡ two bytes (2 * (first + i))
unfolding links_from
links_at bytes zero first i h = absurd (omega arith)
links_at bytes (suc count) first zero h = rw add-zero
links_at bytes (suc count) first (suc i) h =
    let moved : suc first + i ≡ first + suc i = omega arith in
    rw (← moved) (links_at bytes count (suc first) i (omega arith))

pub route_size : (bytes : List ℕ) → length (route_of bytes) ≡ length bytes / 2
unfolding route_of
route_size bytes = links_size bytes (length bytes / 2) 0

-- Links that are the numbers of all pairs of bytes are the route.
pub decoded_route : (bytes : List ℕ) {links : List ℕ} → length links ≡ length bytes / 2
    → ((i : ℕ) → i < length links → get_or links i 0 ≡ two bytes (2 * i)) → links ≡ route_of bytes
unfolding route_of
decoded_route bytes {links} size same =
    ext_get_or 0 links (route_of bytes) (size ∙ sym (route_size bytes))
    (λ i h. same i h ∙ sym (links_at bytes _ 0 i (omega (arith, size)) ∙ rw zero-add))

-- A refusal comes without meeting positions.
pub unpriced : {network request bytes : List ℕ} {r : Refusal} → first_of (tablet_checks network request bytes) ≡ Err r
    → TabletPriced network request bytes (refusal_outcome r)
unpriced {r = r} e = record { meetings = []; pricing = refused r e refl refl }
