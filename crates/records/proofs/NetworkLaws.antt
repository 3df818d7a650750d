-- What a network gives once it is read: its verdict, its numbers, and its links' parts.
use Prim.Native.Nat.{ℕ, ◌+◌, ◌≤◌, ◌<◌}
use native.Mathlib.Omega.{arith}
use native.Mathlib.Nat.{add-sub_cancel_left}
use mathlib.Core.Path.{◌≡◌, refl, sym, ◌∙◌}
use mathlib.Core.List.{List}
use lib.ListN.{length}
use Rattle.std.specs.Borrow.{Bor}
use borrow.Rule.Slice.PartAt.{sl_partˢ}
use Rattle.rules.specs.Checks.{beside, Verdict, Accepted}
use Rattle.rules.specs.Network.{node_count, link_count, link_start, network_verdict, network_of, SoundNetwork, Part}
use Rattle.rules.specs.declared.NetworkRead.{NetworkRead}
use Rattle.rules.proofs.SoundNetworkLaws.{network_sound}
use Rattle.std.specs.Prelude.{Ok, Err}

-- a link number below the m that was read is one of a sound record
pub known_link : (s : List ℕ) (k : ℕ) → k < (network_of s).m → SoundNetwork s × (k < link_count s)
unfolding network_of
known_link s k = go (network_verdict s) refl
  where
    go : (v : Verdict) → network_verdict s ≡ v → k < beside v (link_count s) 0 → SoundNetwork s × (k < link_count s)
    go (Ok _) e h = (network_sound s e, h)
    go (Err r) e h = absurd (omega arith)

pub link_fits : (s : List ℕ) (k : ℕ) → k < (network_of s).m → link_start k + 8 ≤ length s
link_fits s k h =
    let (so, below) = known_link s k h in
    omega arith

-- what the slice's own rule says of `&whole[at..at + size]`
pub part_of : (whole : Bor (List ℕ)) {start at : ℕ} (size : ℕ) → at ≡ start
    → Part whole start size (sl_partˢ whole (at + whole.ref_ptr.1) at (at + size))
part_of whole {start} {at} size e =
    record { memory = refl; place = rw e; contents = rw (add-sub_cancel_left at size, e) }

-- what a read network says: its verdict, and beside an accepted one its numbers
module _ (s : List ℕ) {r : NetworkRead} (is : r ≡ network_of s) where
  pub read_verdict : r.verdict ≡ network_verdict s
  unfolding network_of
  read_verdict = rw is

  module _ (accepted : r.verdict ≡ Accepted) where
    pub read_accepted : network_verdict s ≡ Accepted
    read_accepted = sym read_verdict ∙ accepted

    pub read_n : r.n ≡ node_count s
    unfolding network_of
    read_n = rw (is, read_accepted)
