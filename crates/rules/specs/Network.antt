-- The network record (1.2): a version byte, the record's length in four bytes, n and m in two each; then for each link, in two
-- bytes each, where it starts, where it ends, and what it costs to drive and to walk.
use Rattle.std.specs.Prelude.{ℕ, zero, suc, ◌+◌, ◌*◌, ◌/◌, ◌≤◌, ◌<◌, Bool, ◌||◌, cond, ◌≡◌, List, [], ◌∷◌, ◌++◌, length, take, drop, ltb, leb}
use Rattle.std.specs.Borrow.{Bor}
use Rattle.rules.specs.Checks.{Verdict, Check, check, first_of, each, differ, outside, beside}
use Rattle.rules.specs.Limits.{most_nodes, most_links}
use Rattle.rules.specs.Numbers.{byte, two, number, bytes_of, twos_of}
use Rattle.rules.specs.declared.NetworkRead.{NetworkRead}
use Rattle.rules.specs.declared.refusal.Opening.{Opening}
use Rattle.rules.specs.declared.refusal.Fault.TheVariants.{NetworkShort, NetworkVersion, NetworkLength, NetworkLimits, NetworkParts, LinkNode}

-- Both records open with their version and their length, which has `size` bytes. The rest of a record begins at byte 9.
abbrev pub version_of : List ℕ → ℕ
version_of s = byte s 0

abbrev pub stated_length : ℕ → List ℕ → ℕ
stated_length size s = number size s 1

-- The three refusals of an opening (4.2, 4.3): too short for it, no version that is known (1 to `latest`), not as long as it states.
unfoldable pub opening_checks : Opening → List ℕ → List Check
opening_checks opens s =
    check opens.short 0 (ltb (length s) 9)
    ∷ check opens.version 0 (outside 1 opens.latest (version_of s))
    ∷ check opens.length 0 (differ (stated_length opens.size s) (length s))
    ∷ []

abbrev pub network_opening : Opening
network_opening = record { latest = 1; size = 4; short = NetworkShort; version = NetworkVersion; length = NetworkLength }

-- The bytes of an opening: a version, and the length of a record of so many bytes.
abbrev pub opening_bytes : ℕ → ℕ → ℕ → List ℕ
opening_bytes version size stated = bytes_of 1 version ++ bytes_of size stated

abbrev pub node_count : List ℕ → ℕ
node_count s = two s 5

abbrev pub link_count : List ℕ → ℕ
link_count s = two s 7

abbrev pub link_start : ℕ → ℕ
link_start k = 9 + 8 * k

abbrev pub from : List ℕ → ℕ → ℕ
from s k = two s (link_start k)

abbrev pub to : List ℕ → ℕ → ℕ
to s k = two s (link_start k + 2)

abbrev pub drive : List ℕ → ℕ → ℕ
drive s k = two s (link_start k + 4)

abbrev pub walk : List ℕ → ℕ → ℕ
walk s k = two s (link_start k + 6)

-- The numbers of links as a writer is handed them (1.11): the four of each of so many links, from link k on; and those of all links.
unfoldable pub numbers_from : List ℕ → ℕ → ℕ → List ℕ
numbers_from s zero k = []
numbers_from s (suc count) k = from s k ∷ to s k ∷ drive s k ∷ walk s k ∷ numbers_from s count (suc k)

abbrev pub link_numbers : List ℕ → List ℕ
link_numbers s = numbers_from s (link_count s) 0

-- how many links so many numbers make
abbrev pub given_links : List ℕ → ℕ
given_links numbers = length numbers / 4

-- The record of n nodes and such numbers: its head, and the numbers behind it.
abbrev pub network_head : ℕ → ℕ → List ℕ
network_head n m = opening_bytes 1 4 (link_start m) ++ bytes_of 2 n ++ bytes_of 2 m

abbrev pub network_record : ℕ → List ℕ → List ℕ
network_record n numbers = network_head n (given_links numbers) ++ twos_of numbers

-- Refusals 4 and 5 (4.2): the limits of n and m, and a length that is no whole number of links or not m of them.
unfoldable pub size_checks : List ℕ → List Check
size_checks s =
    check NetworkLimits 0 (outside 1 most_nodes (node_count s) || outside 0 most_links (link_count s))
    ∷ check NetworkParts 0 (differ (length s) (link_start (link_count s)))
    ∷ []

-- Refusal 6 (4.2), at link k.
abbrev pub link_beyond : List ℕ → ℕ → Bool
link_beyond s k = leb (node_count s) (from s k) || leb (node_count s) (to s k)

abbrev pub link_checks : List ℕ → ℕ → List Check
link_checks s k = check LinkNode k (link_beyond s k) ∷ []

unfoldable pub network_checks : List ℕ → List Check
network_checks s = opening_checks network_opening s ++ (size_checks s ++ each (link_checks s) (link_count s) 0)

-- What a network record is that none of these checks refuses.
pub record SoundNetwork (s : List ℕ) : Type 0 where
  pub long : 9 ≤ length s
  pub version : version_of s ≡ 1
  pub stated : stated_length 4 s ≡ length s
  pub some_node : 1 ≤ node_count s
  pub nodes : node_count s ≤ most_nodes
  pub links : link_count s ≤ most_links
  pub whole : length s ≡ link_start (link_count s)
  pub starts : (k : ℕ) → k < link_count s → from s k < node_count s
  pub ends : (k : ℕ) → k < link_count s → to s k < node_count s

unfoldable pub network_verdict : List ℕ → Verdict
network_verdict s = first_of (network_checks s)

-- What reading gives (1.8): n and m, and 0 for both beside a refusal.
unfoldable pub network_of : List ℕ → NetworkRead
network_of s =
    record {
      verdict = network_verdict s;
      n = beside (network_verdict s) (node_count s) 0;
      m = beside (network_verdict s) (link_count s) 0;
    }

-- The part that is handed back for link k (1.10): its eight bytes where they lie, or the empty part where the record starts.
abbrev pub has_link : List ℕ → ℕ → Bool
has_link s k = ltb k (network_of s).m

-- the part of a whole that starts at `start` and has `size` elements: the same memory, and what it holds
pub record Part (whole : Bor (List ℕ)) (start size : ℕ) (part : Bor (List ℕ)) : Type 0 where
  pub memory : part.ref_ptr.0 ≡ whole.ref_ptr.0
  pub place : part.ref_ptr.1 ≡ start + whole.ref_ptr.1
  pub contents : part.now ≡ take size (drop start whole.now)

abbrev pub LinkPart : Bor (List ℕ) → ℕ → Bor (List ℕ) → Type 0
LinkPart network k part =
    Part network (cond (has_link network.now k) (link_start k) 0) (cond (has_link network.now k) 8 0) part
