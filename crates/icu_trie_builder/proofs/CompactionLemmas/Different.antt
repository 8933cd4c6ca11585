-- The number of distinct blocks.
use Rattle.std.proofs.Common.{◌≡◌, ℕ, ◌+◌, ◌*◌, ◌-◌, ◌<◌, ◌≤◌, List, [], ◌∷◌, length, map, get_or, drop, refl, arith, ◌∙◌, sym, zero, suc}
use Rattle.std.specs.List.{range_with_len, Contains}
use Rattle.std.specs.Cmp.Lexicographic.{pointwise}
use Rattle.std.specs.Set.{unique_keys}
use Rattle.std.proofs.lemmas.List.{get_or-take, get_or-drop, length-take, length-drop, same_lists}
use Rattle.std.proofs.lemmas.List.FromFn.{length-map-range_with_len, get_or-map-range_with_len}
use Rattle.std.proofs.lemmas.Map.Made.{distinct_count-le, is_member-Decides, AllPairs-from_IsDistinct}
use Rattle.std.specs.Prelude.{nat_eq}
use Rattle.icu_trie_core.specs.Blocks.{block, block_of, count_different}
use Rattle.icu_trie_builder.proofs.CompactionLemmas.Counts.{apart-le-distinct_count, distinct_count-mono, unique_keys-apart, unique_keys-member}
use Rattle.icu_trie_builder.proofs.CompactionLemmas.Windows.{list_laws, list_decides}

-- A block in the list of a map's numbers is a block of the map.
pub block-block_of : (f : ℕ → ℕ) (k j : ℕ) (xs : List ℕ) → k * j + k ≤ length xs → ((c d : ℕ) → c < length xs → get_or xs c d ≡ f c)
    → block k xs j ≡ block_of k f j
unfolding block_of
block-block_of f k j xs h is =
    let len : length (block k xs j) ≡ k = omega (arith, length-take k (drop (k * j) xs), length-drop (k * j) xs) in
    same_lists (block k xs j) (map f (range_with_len (k * j) k)) (len ∙ sym (length-map-range_with_len f (k * j) k))
    (λ i d l. let lt : i < k = omega (arith, len) in
    get_or-take k (drop (k * j) xs) i d lt ∙ get_or-drop (k * j) xs i d ∙ is (k * j + i) d (omega arith)
    ∙ sym (get_or-map-range_with_len f (k * j) k i (k * j + i) d lt refl))

-- Fewer blocks, or the same blocks with other numbers.
pub count_different-within : (b b' : ℕ → List ℕ) (first count first' count' : ℕ)
    → ((j : ℕ) → first ≤ j → j < first + count → (j' : ℕ) × (first' ≤ j') × (j' < first' + count') × (b j ≡ b' j'))
    → count_different b first count ≤ count_different b' first' count'
unfolding count_different
count_different-within b b' first count first' count' h = distinct_count-mono list_laws list_decides
    (map b (range_with_len first count)) (map b' (range_with_len first' count'))
    (λ q w.
    let lt : w.0 < count = omega (arith, w.1, length-map-range_with_len b first count) in
    let v = h (first + w.0) (omega arith) (omega (arith, lt)) in
    let i : ℕ = v.0 - first' in
    let lt' : i < count' = omega (arith, v.1, v.2) in
    let e : first' + i ≡ v.0 = omega (arith, v.1) in
    let here : get_or (map b' (range_with_len first' count')) i q ≡ q = get_or-map-range_with_len b' first' count' i v.0 q lt' e ∙ sym v.3
    ∙ sym (get_or-map-range_with_len b first count w.0 (first + w.0) q lt refl) ∙ w.2 in
    (i, omega (arith, lt', length-map-range_with_len b' first' count'), here))

-- There are at most as many distinct blocks as blocks.
pub count_different-le_count : (b : ℕ → List ℕ) (first count : ℕ) → count_different b first count ≤ count
unfolding count_different
count_different-le_count b first count = omega
    (arith, distinct_count-le (pointwise nat_eq) (map b (range_with_len first count)), length-map-range_with_len b first count)

-- The positions of the elements of us in the range of g.
places : (us : List (List ℕ)) (g : ℕ → List ℕ) (a m : ℕ) → ((q : List ℕ) → Contains us q → Contains (map g (range_with_len a m)) q)
    → (is : List ℕ) × ((p : ℕ) (d : List ℕ) → p < length us → (get_or is p 0 < m) × (g (a + get_or is p 0) ≡ get_or us p d))
places [] g a m h = ([], λ p d l. absurd (omega (arith, l)))
places (u ∷ us) g a m h =
    let w = h u (0, omega arith, refl) in
    let lt : w.0 < m = omega (arith, w.1, length-map-range_with_len g a m) in
    let here : g (a + w.0) ≡ u = sym (get_or-map-range_with_len g a m w.0 (a + w.0) u lt refl) ∙ w.2 in
    let r = places us g a m (λ q c. h q (suc c.0, omega (arith, c.1), c.2)) in
    (w.0 ∷ r.0, by w.0 r.0 lt here r.1)
  where
    by : (i : ℕ) (is : List ℕ) → i < m → g (a + i) ≡ u
        → ((p : ℕ) (d : List ℕ) → p < length us → (get_or is p 0 < m) × (g (a + get_or is p 0) ≡ get_or us p d))
        → (p : ℕ) (d : List ℕ) → p < length (u ∷ us) → (get_or (i ∷ is) p 0 < m) × (g (a + get_or (i ∷ is) p 0) ≡ get_or (u ∷ us) p d)
    by i is lt here more zero d l = (lt, here)
    by i is lt here more (suc p) d l = more p d (omega (arith, l))

-- If equal blocks of c imply equal blocks of b, b has at most as many distinct blocks as c.
pub count_different-by : (b c : ℕ → List ℕ) (a a' m m' : ℕ) → m ≤ m'
    → ((i j : ℕ) → i < m → j < m → c (a' + i) ≡ c (a' + j) → b (a + i) ≡ b (a + j))
    → count_different b a m ≤ count_different c a' m'
unfolding count_different
count_different-by b c a a' m m' le h =
    let xs : List (List ℕ) = map b (range_with_len a m) in
    let us : List (List ℕ) = unique_keys (pointwise nat_eq) xs in
    let r =
    places us b a m (λ q w. (is_member-Decides list_decides xs q).0
    (unique_keys-member list_laws list_decides xs q ((is_member-Decides list_decides us q).1 w))) in
    let pairs = AllPairs-from_IsDistinct list_decides us (unique_keys-apart list_laws list_decides xs) in
    let at : ℕ → ℕ = λ p. get_or r.0 p 0 in
    apart-le-distinct_count list_laws list_decides (λ p. c (a' + at p)) c (length us) a' m'
    (λ p q lt below e.
    let one = r.1 p [] (omega (arith, lt, below)) in
    let two = r.1 q [] below in
    pairs p q [] lt below (sym one.1 ∙ (h (at p) (at q) one.0 two.0 e ∙ two.1)))
    (λ p below. (at p, omega (arith, (r.1 p [] below).0, le), refl))
