-- A network's numbers and its record: what is written is read, and what is read is written again.
use Prim.Native.Nat.{ℕ, zero, suc, ◌+◌, ◌*◌, ◌/◌, ◌%◌, ◌^◌, ◌≤◌, ◌<◌}
use native.Mathlib.Omega.{arith}
use native.Mathlib.Nat.{zero-add, add-zero}
use mathlib.Core.Path.{◌≡◌, refl, sym, ◌∙◌, ap}
use mathlib.Core.List.{List, [], ◌∷◌, ◌++◌, append-nil}
use lib.ListN.{length, get_or, take, drop, length-append, drop_of_length-le}
use lib.Seq.{drop-cons, take_all}
use borrow.Author.Tests.{ltb-false, leb-false, le-ltb, lt-leb, eq-eqb}
use Rattle.rules.specs.Checks.{first_of, Accepted}
use Rattle.rules.specs.Limits.{most_nodes, most_links}
use Rattle.rules.specs.Numbers.{number, two, bytes_of, twos_of, Fit}
use Rattle.rules.specs.Network.{given_links, version_of, stated_length, node_count, link_count, link_start, from, to, drive, walk, numbers_from, link_numbers}
use Rattle.rules.specs.Network.{network_head, network_record, SoundNetwork}
use Rattle.rules.specs.Writing.{link_list_checks, given_link_checks, network_number_checks}
use Rattle.rules.proofs.Order.{accepted_head, accepted_front, accepted_rest, accepted_each, front_passed, all_pass}
use Rattle.rules.proofs.TestLaws.{neither, same, within, not_outside}
use Rattle.rules.proofs.BytesLaws.{bytes_then, twos_then, twos_at, twos_length, number_behind}

-- ---- what 81 and 82 leave: n, and numbers of whole links between nodes of n
pub record WritableNetwork (n : ℕ) (numbers : List ℕ) : Type 0 where
  pub some_node : 1 ≤ n
  pub nodes : n ≤ most_nodes
  pub whole : length numbers ≡ 4 * given_links numbers
  pub links : given_links numbers ≤ most_links
  pub starts : (k : ℕ) → k < given_links numbers → get_or numbers (4 * k) 0 < n
  pub ends : (k : ℕ) → k < given_links numbers → get_or numbers (4 * k + 1) 0 < n

module _ (n : ℕ) (numbers : List ℕ) where
  pub numbers_accepted : first_of (network_number_checks n numbers) ≡ Accepted → WritableNetwork n numbers
  unfolding network_number_checks link_list_checks
  numbers_accepted e =
      let (a, e₁) = accepted_head _ _ (accepted_front (link_list_checks n numbers) _ e) in
      let (b, e₂) = accepted_head _ _ e₁ in
      let (c, e₃) = accepted_head _ _ e₂ in
      let later = accepted_rest (link_list_checks n numbers) _ e in
      let link : (k : ℕ) → k < given_links numbers → (get_or numbers (4 * k) 0 < n) × (get_or numbers (4 * k + 1) 0 < n) =
      λ k h.
      let (here, rest) = accepted_head _ _ (accepted_each (given_link_checks n numbers) (given_links numbers) 0 later k h) in
      let (x, y) = neither _ _ (rw zero-add at here) in
      (leb-false _ _ x, leb-false _ _ y) in
      record {
        some_node = (within _ _ _ a).0;
        nodes = (within _ _ _ a).1;
        whole = omega (arith, same (length numbers % 4) 0 b);
        links = ltb-false _ _ c;
        starts = λ k h. (link k h).0;
        ends = λ k h. (link k h).1;
      }

  module _ (so : WritableNetwork n numbers) where
    list_accepts : first_of (link_list_checks n numbers) ≡ Accepted
    unfolding link_list_checks first_of
    list_accepts =
        let none : length numbers % 4 ≡ 0 = omega (arith, so.whole) in
        simp (not_outside _ _ _ so.some_node so.nodes, eq-eqb _ _ none, le-ltb _ _ so.links)

    link_accepts : (k : ℕ) → k < given_links numbers → first_of (given_link_checks n numbers k) ≡ Accepted
    unfolding first_of
    link_accepts k h = simp (lt-leb _ _ (so.starts k h), lt-leb _ _ (so.ends k h))

    pub numbers_accept : first_of (network_number_checks n numbers) ≡ Accepted
    unfolding network_number_checks
    numbers_accept =
        front_passed (link_list_checks n numbers) _ list_accepts
        ∙ all_pass (given_link_checks n numbers) (given_links numbers) 0 (λ k h. rw zero-add (link_accepts k h))

-- ---- what stands in the record of such numbers
module _ (n m : ℕ) (rest : List ℕ) where
  head_version : version_of (network_head n m ++ rest) ≡ 1
  unfolding bytes_of
  head_version = refl

  head_length : link_start m < 2 ^ 32 → stated_length 4 (network_head n m ++ rest) ≡ link_start m
  unfolding number bytes_of
  head_length h = omega arith

  head_nodes : n < 65536 → node_count (network_head n m ++ rest) ≡ n
  unfolding number bytes_of
  head_nodes h = omega arith

  head_links : m < 65536 → link_count (network_head n m ++ rest) ≡ m
  unfolding number bytes_of
  head_links h = omega arith

module _ {n : ℕ} {numbers : List ℕ} (so : WritableNetwork n numbers) where
  pub written_nodes : node_count (network_record n numbers) ≡ n
  written_nodes = head_nodes n (given_links numbers) (twos_of numbers) (omega (arith, so.nodes))

  pub written_links : link_count (network_record n numbers) ≡ given_links numbers
  written_links = head_links n (given_links numbers) (twos_of numbers) (omega (arith, so.links))

  pub written_length : length (network_record n numbers) ≡ link_start (given_links numbers)
  unfolding bytes_of
  written_length = omega (arith, length-append (network_head n (given_links numbers)) (twos_of numbers), twos_length numbers, so.whole)

  module _ (fit : Fit 2 numbers) where
    -- number i of the list stands behind the head and i numbers of two bytes
    number_at : (i : ℕ) → i < length numbers → two (network_record n numbers) (9 + 2 * i) ≡ get_or numbers i 0
    unfolding bytes_of
    number_at i h = number_behind (network_head n (given_links numbers)) (twos_of numbers) 2 (2 * i) ∙ twos_at numbers i fit h

    number_of : (place i : ℕ) → place ≡ 9 + 2 * i → i < length numbers → two (network_record n numbers) place ≡ get_or numbers i 0
    number_of place i e h = rw e (number_at i h)

    -- the numbers of so many links from link k on, where those are all that are left
    numbers_again : (count k : ℕ) → 4 * (k + count) ≡ length numbers → numbers_from (network_record n numbers) count k ≡ drop (4 * k) numbers
    unfolding numbers_from
    numbers_again zero k e = sym (drop_of_length-le numbers {i = 4 * k} (omega arith))
    numbers_again (suc count) k e =
        rw (
          number_of (link_start k) (4 * k) (omega arith) (omega arith),
          number_of (link_start k + 2) (suc (4 * k)) (omega arith) (omega arith),
          number_of (link_start k + 4) (suc (suc (4 * k))) (omega arith) (omega arith),
          number_of (link_start k + 6) (suc (suc (suc (4 * k)))) (omega arith) (omega arith),
          numbers_again count (suc k) (omega arith),
          drop-cons numbers (4 * k) 0 (omega arith),
          drop-cons numbers (suc (4 * k)) 0 (omega arith),
          drop-cons numbers (suc (suc (4 * k))) 0 (omega arith),
          drop-cons numbers (suc (suc (suc (4 * k)))) 0 (omega arith),
          four_more,
        )
      where
        four_more : suc (suc (suc (suc (4 * k)))) ≡ 4 * suc k
        four_more = omega arith

    pub written_sound : SoundNetwork (network_record n numbers)
    written_sound =
        record {
          long = omega (arith, written_length);
          version = head_version n (given_links numbers) (twos_of numbers);
          stated = head_length n (given_links numbers) (twos_of numbers) (omega (arith, so.links)) ∙ sym written_length;
          some_node = omega (arith, written_nodes, so.some_node);
          nodes = omega (arith, written_nodes, so.nodes);
          links = omega (arith, written_links, so.links);
          whole = written_length ∙ ap link_start (sym written_links);
          starts = λ k h. rw (number_of (link_start k) (4 * k) (omega arith) (omega (arith, inside k h)), written_nodes) (so.starts k (omega (arith, written_links)));
          ends = λ k h. rw (number_of (link_start k + 2) (4 * k + 1) (omega arith) (omega (arith, inside k h)), written_nodes) (so.ends k (omega (arith, written_links)));
        }
      where
        inside : (k : ℕ) → k < link_count (network_record n numbers) → 4 * k + 3 < length numbers
        inside k h = omega (arith, written_links, so.whole)

    pub written_numbers : link_numbers (network_record n numbers) ≡ numbers
    written_numbers = rw written_links (numbers_again (given_links numbers) 0 (omega (arith, so.whole)))

-- ---- the record of the numbers that were read
numbers_length : (s : List ℕ) (count k : ℕ) → length (numbers_from s count k) ≡ 4 * count
unfolding numbers_from
numbers_length s zero k = refl
numbers_length s (suc count) k = omega (arith, numbers_length s count (suc k))

numbers_at : (s : List ℕ) (count k i : ℕ) → i < count
    → (get_or (numbers_from s count k) (4 * i) 0 ≡ from s (k + i)) × (get_or (numbers_from s count k) (4 * i + 1) 0 ≡ to s (k + i))
unfolding numbers_from
numbers_at s zero k i h = absurd (omega arith)
numbers_at s (suc count) k zero h = rw add-zero (refl, refl)
numbers_at s (suc count) k (suc i) h =
    let first : 4 * suc i ≡ suc (suc (suc (suc (4 * i)))) = omega arith in
    let second : 4 * suc i + 1 ≡ suc (suc (suc (suc (4 * i + 1)))) = omega arith in
    let moved : k + suc i ≡ suc k + i = omega arith in
    rw (second, first, moved) (numbers_at s count (suc k) i (omega arith))

module _ {s : List ℕ} (bytes : Fit 1 s) (so : SoundNetwork s) where
  read_head : network_head (node_count s) (link_count s) ≡ take 9 s
  unfolding number
  read_head =
      bytes_then bytes 2 7
      (bytes_then bytes 2 5
      (bytes_then bytes 4 1
      (bytes_then bytes 1 0 {front = []} refl version (omega (arith, so.long)))
      (sym (so.stated ∙ so.whole)) (omega (arith, so.long)))
      refl (omega (arith, so.long)))
      refl so.long
    where
      version : 1 ≡ number 1 s 0
      version = omega (arith, so.version)

  read_links : (count k : ℕ) → k + count ≡ link_count s → take (link_start k) s ++ twos_of (numbers_from s count k) ≡ s
  unfolding numbers_from twos_of
  read_links zero k e = append-nil (take (link_start k) s) ∙ take_all (link_start k) s (omega (arith, so.whole))
  read_links (suc count) k e =
      let h : link_start k + 8 ≤ length s = omega (arith, so.whole) in
      let later = numbers_from s count (suc k) in
      twos_then bytes (link_start k) (link_start k + 2) (to s k ∷ drive s k ∷ walk s k ∷ later) refl (omega arith)
      ∙ twos_then bytes (link_start k + 2) (link_start k + 4) (drive s k ∷ walk s k ∷ later) (omega arith) (omega arith)
      ∙ twos_then bytes (link_start k + 4) (link_start k + 6) (walk s k ∷ later) (omega arith) (omega arith)
      ∙ twos_then bytes (link_start k + 6) (link_start (suc k)) later (omega arith) (omega arith)
      ∙ read_links count (suc k) (omega arith)

  pub read_again : network_record (node_count s) (link_numbers s) ≡ s
  read_again =
      let many : length (link_numbers s) / 4 ≡ link_count s = omega (arith, numbers_length s (link_count s) 0) in
      rw (many, read_head) (read_links (link_count s) 0 (omega arith))

  pub read_writable : WritableNetwork (node_count s) (link_numbers s)
  read_writable =
      let size = numbers_length s (link_count s) 0 in
      record {
        some_node = so.some_node;
        nodes = so.nodes;
        whole = omega (arith, size);
        links = omega (arith, size, so.links);
        starts = λ k h. let k' : k < link_count s = omega (arith, size) in rw ((numbers_at s (link_count s) 0 k k').0, zero-add) (so.starts k k');
        ends = λ k h. let k' : k < link_count s = omega (arith, size) in rw ((numbers_at s (link_count s) 0 k k').1, zero-add) (so.ends k k');
      }
