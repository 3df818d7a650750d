-- Distances: one rider's row more, and what the work table is filled from.
use Prim.Native.Nat.{ℕ, ◌+◌, ◌-◌, ◌*◌, ◌^◌, ◌≤◌, ◌<◌}
use mathlib.Core.Path.{◌≡◌, ◌∙◌}
use mathlib.Core.List.{List}
use native.Mathlib.Omega.{arith}
use native.Mathlib.Nat.{mul-le-mul}
use lib.ListN.{length, take, drop, take-append-drop}
use borrow.Rule.Slice.PartMut.{put_mid}
use Rattle.std.proofs.lemmas.List.{length-take-le}
use Rattle.rules.specs.Limits.{most_nodes, most_riders}
use Rattle.rules.specs.Network.{SoundNetwork, node_count}
use Rattle.rules.specs.Request.{SoundValue, rider_node_of, rider_count_of}
use Rattle.rules.specs.Routes.{RiderHolds}
use Rattle.rules.specs.Rooms.{Distances, distance_places}
use Rattle.rules.specs.declared.Request.{Request}
use Rattle.rules.proofs.RiderLaws.{rider_held}
use Rattle.rules.proofs.RoomLaws.{row_within}
use Rattle.walk.specs.Row.{Row}
use Rattle.table.specs.Filling.{KnownDistances, WalkedRows}
use Rattle.table.proofs.RowLaws.{Turn, part_fits, rows_more}

-- A row of n places from a on lies within a room of that size, and a is no larger than where the row of the largest set starts in the
-- largest network.
pub record Lies (a n size : ℕ) : Type 0 where
  pub low : a ≤ (2 ^ most_riders - 1) * most_nodes
  pub within : a + n ≤ size

module _ {network : List ℕ} {q : Request} {before t : List ℕ} {j : ℕ} (h : j < rider_count_of q)
    (places : distance_places (node_count network) (rider_count_of q) ≤ length before) (so : WalkedRows network q j before t) where
  turn : Turn (RiderHolds network q) (node_count network) (rider_count_of q) j before (take (j * node_count network) t) (drop (j * node_count network) t)
  turn =
      record {
        row = h;
        places = places;
        starts = length-take-le (j * node_count network) t (omega (arith, row_within (node_count network) h, so.kept.size));
        so = rw (take-append-drop (j * node_count network) t) so;
      }

  -- What was walked from the rider's node is the rider's.
  pub walked_more : {part : List ℕ} {n k : ℕ} → n ≡ node_count network → k ≡ n → Row network (rider_node_of q j) (take k (drop (j * n) t)) part
      → WalkedRows network q (j + 1) before (put_mid (j * n) k t part)
  walked_more {part} {n} {k} reads size row =
      rw (size, reads) (rows_more turn part (row.kept.size ∙ rw (size, reads) (length-take-le _ _ (part_fits turn))) (λ v g. rider_held (row.holds v g)))

-- The next row is there, for the number of nodes that was read.
pub row_fits : {network : List ℕ} {q : Request} {before t : List ℕ} {j n : ℕ} → SoundNetwork network → SoundValue (node_count network) q
    → distance_places (node_count network) (rider_count_of q) ≤ length before → WalkedRows network q j before t
    → n ≡ node_count network → j < rider_count_of q → Lies (j * n) n (length t)
row_fits {network} {j = j} sound value places so read h =
    let few : j ≤ 2 ^ most_riders - 1 = omega (arith, value.riders) in
    rw read
    (record {
      low = mul-le-mul few sound.nodes;
      within = omega (arith, places, row_within (node_count network) h, so.kept.size);
    })

pub distances_walked : {network : List ℕ} {q : Request} {before after : List ℕ}
    → distance_places (node_count network) (rider_count_of q) ≤ length before
    → Distances network q before after
    → KnownDistances network q after
distances_walked places so = record { places = omega (arith, so.kept.size); walks = so.holds }
