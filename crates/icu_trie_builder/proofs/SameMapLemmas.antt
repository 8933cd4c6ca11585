-- Maps that are equal on all code points have the same bounds.
use Rattle.std.proofs.Common.{◌≡◌, ℕ, ◌+◌, ◌*◌, ◌<◌, ◌≤◌, List, map, refl, arith, sym, ◌∙◌, ap, ap₂, subst, inl, inr}
use Rattle.std.specs.Prelude.{nat_eq, not, Bool, Some}
use Rattle.std.specs.List.{range_with_len, list_any, filter}
use Rattle.std.specs.Set.{distinct_count}
use Rattle.std.specs.Cmp.Lexicographic.{pointwise}
use Rattle.std.proofs.lemmas.List.{same_lists}
use Rattle.std.proofs.lemmas.List.FromFn.{length-map-range_with_len, get_or-map-range_with_len}
use Rattle.icu_trie_core.specs.declared.header.TrieType.{TrieType}
use Rattle.icu_trie_core.specs.declared.header.TrieType.TheVariants.{Fast, Small}
use Rattle.icu_trie_core.specs.declared.header.CodePointTrieHeader.{CodePointTrieHeader}
use Rattle.icu_trie_core.specs.Format.{fast_limit, fast_offset, small_offset}
use Rattle.icu_trie_core.specs.Blocks.{block_of, count_different}
use Rattle.icu_trie_builder.specs.Bounds.{data_bound, compact_data_bound, index_bound, short_index_bound, fast_blocks, small_blocks, lone_small_blocks, index_blocks, stands_in, stands_below, IsTooLarge}
use Rattle.icu_trie_builder.specs.Different.{count_different_but}
use Rattle.icu_trie_builder.specs.NullBlock.{HasDefaultNull, HoldsOne, NamesNoNull, NamesNull, SomeHoldsOne}

-- Functions that are equal on a range give the same list there.
same_map : {A : Type 0} (f g : ℕ → A) (first count : ℕ) → ((j : ℕ) → first ≤ j → j < first + count → f j ≡ g j)
    → map f (range_with_len first count) ≡ map g (range_with_len first count)
same_map f g first count h =
    let lf = length-map-range_with_len f first count in
    same_lists (map f (range_with_len first count)) (map g (range_with_len first count))
    (lf ∙ sym (length-map-range_with_len g first count))
    (λ i d l. let below : i < count = omega (arith, l, lf) in
    get_or-map-range_with_len f first count i (first + i) d below refl
    ∙ (h (first + i) (omega arith) (omega (arith, below)) ∙ sym (get_or-map-range_with_len g first count i (first + i) d below refl)))

count_different-alike : (b b' : ℕ → List ℕ) (first count : ℕ) → ((j : ℕ) → first ≤ j → j < first + count → b j ≡ b' j)
    → count_different b first count ≡ count_different b' first count
unfolding count_different
count_different-alike b b' first count h = ap (distinct_count (pointwise nat_eq)) (same_map b b' first count h)

count_different_but-alike : (p : List ℕ → Bool) (b b' : ℕ → List ℕ) (first count : ℕ)
    → ((j : ℕ) → first ≤ j → j < first + count → b j ≡ b' j) → count_different_but p b first count ≡ count_different_but p b' first count
unfolding count_different_but
count_different_but-alike p b b' first count h =
    ap (λ bs. distinct_count (pointwise nat_eq) (filter (λ x. not (p x)) bs)) (same_map b b' first count h)

module _ (f g : ℕ → ℕ) (same : (c : ℕ) → c < 0x110000 → f c ≡ g c) where
  block_of-alike : (k j : ℕ) → k * j + k ≤ 0x110000 → block_of k f j ≡ block_of k g j
  unfolding block_of
  block_of-alike k j le = same_map f g (k * j) k (λ c from below. same c (omega (arith, le)))

  fast-alike : (t : TrieType) → fast_blocks t f ≡ fast_blocks t g
  fast-alike Fast = count_different-alike (block_of 64 f)
      (block_of 64 g) 0 1024 (λ j from below. block_of-alike 64 j (omega (arith, below)))
  fast-alike Small = count_different-alike (block_of 64 f) (block_of 64 g) 0 64 (λ j from below. block_of-alike 64 j (omega (arith, below)))

  small-alike : (t : TrieType) → small_blocks t f ≡ small_blocks t g
  small-alike Fast = count_different-alike (block_of 16 f)
      (block_of 16 g) 4096 65536 (λ j from below. block_of-alike 16 j (omega (arith, below)))
  small-alike Small = count_different-alike (block_of 16 f)
      (block_of 16 g) 256 69376 (λ j from below. block_of-alike 16 j (omega (arith, below)))

  stands-alike : (n : ℕ) → 64 * n ≤ 0x110000 → stands_below (block_of 64 f) n ≡ stands_below (block_of 64 g) n
  unfolding stands_below
  stands-alike n le = ap (λ bs x. list_any (stands_in x) bs)
      (same_map (block_of 64 f) (block_of 64 g) 0 n (λ j from below. block_of-alike 64 j (omega (arith, below, le))))

  lone-alike : (t : TrieType) → lone_small_blocks t f ≡ lone_small_blocks t g
  lone-alike Fast = ap (λ p. count_different_but p (block_of 16 f) 4096 65536) (stands-alike 1024 (omega arith))
      ∙ count_different_but-alike (stands_below (block_of 64 g) 1024) (block_of 16 f)
      (block_of 16 g) 4096 65536 (λ j from below. block_of-alike 16 j (omega (arith, below)))
  lone-alike Small = ap (λ p. count_different_but p (block_of 16 f) 256 69376) (stands-alike 64 (omega arith))
      ∙ count_different_but-alike (stands_below (block_of 64 g) 64) (block_of 16 f)
      (block_of 16 g) 256 69376 (λ j from below. block_of-alike 16 j (omega (arith, below)))

  index-alike : (t : TrieType) → index_blocks t f ≡ index_blocks t g
  index-alike Fast = count_different-alike (block_of 512 f)
      (block_of 512 g) 128 2048 (λ j from below. block_of-alike 512 j (omega (arith, below)))
  index-alike Small = count_different-alike (block_of 512 f)
      (block_of 512 g) 8 2168 (λ j from below. block_of-alike 512 j (omega (arith, below)))

  -- Both maps have the same bound on the data cells.
  pub data_bound-alike : (t : TrieType) → data_bound t f ≡ data_bound t g
  data_bound-alike t = ap₂ (λ m n. 64 * m + 16 * n + 160) (fast-alike t) (small-alike t)

  -- They have the same second bound on the data cells.
  pub compact_data_bound-alike : (t : TrieType) → compact_data_bound t f ≡ compact_data_bound t g
  compact_data_bound-alike t = ap₂ (λ m n. 64 * m + 16 * n + 160) (fast-alike t) (lone-alike t)

  -- They have the same bound on the index cells.
  pub index_bound-alike : (t : TrieType) → index_bound t f ≡ index_bound t g
  index_bound-alike t = ap (λ n. 36 * n + 3200) (index-alike t)

  -- They have the same bound on the index cells if offsets have 16 bits.
  pub short_index_bound-alike : (t : TrieType) → short_index_bound t f ≡ short_index_bound t g
  short_index_bound-alike t = ap (λ n. 32 * n + 3200) (index-alike t)

  -- So what bounds the index for one of them, if the data are small, bounds it for the other.
  pub tight-alike : (t : TrieType) (n : ℕ) → (compact_data_bound t f ≤ 0x10000 → n ≤ short_index_bound t f)
      → compact_data_bound t g ≤ 0x10000 → n ≤ short_index_bound t g
  tight-alike t n tight small = subst (λ b. n ≤ b) (short_index_bound-alike t)
      (tight (subst (λ b. b ≤ 0x10000) (sym (compact_data_bound-alike t)) small))

  -- Either both may be too large, or neither.
  pub IsTooLarge-alike : IsTooLarge f → IsTooLarge g
  IsTooLarge-alike (inl h) =
      inl
      (omega (
        arith,
        h,
        count_different-alike (block_of 512 f)
            (block_of 512 g) 0 2176 (λ j from below. block_of-alike 512 j (omega (arith, below))),
      ))
  IsTooLarge-alike (inr h) =
      inr
      (omega (
        arith,
        h,
        count_different-alike (block_of 16 f)
            (block_of 16 g) 0 69632 (λ j from below. block_of-alike 16 j (omega (arith, below))),
      ))

-- A block of one number in one map is one in the other.
HoldsOne-alike : (f g : ℕ → ℕ) → ((c : ℕ) → c < 0x110000 → f c ≡ g c) → (k b : ℕ) → 0 < k → b * k + k ≤ 0x110000 → HoldsOne f k b
    → HoldsOne g k b
HoldsOne-alike f g same k b pos inside h i l = sym (same (b * k + i) (omega (arith, inside, l)))
    ∙ (h i l ∙ same (b * k) (omega (arith, inside, pos)))

SomeHoldsOne-alike : (f g : ℕ → ℕ) → ((c : ℕ) → c < 0x110000 → f c ≡ g c) → (t : TrieType) (high : ℕ) (P Q : ℕ → Type 0) → high ≤ 0x110000
    → SomeHoldsOne t high f P Q → SomeHoldsOne t high g P Q
SomeHoldsOne-alike f g same t high P Q within (inl w) =
    inl (w.0, w.1, HoldsOne-alike f g same 64 w.0 (omega arith) (low t w.0 w.1) w.2, w.3)
  where
    low : (t : TrieType) (b : ℕ) → b * 64 < fast_limit t → b * 64 + 64 ≤ 0x110000
    low Fast b l = omega (arith, l)
    low Small b l = omega (arith, l)
SomeHoldsOne-alike f g same t high P Q within (inr w) =
    inr (w.0, w.1, w.2, HoldsOne-alike f g same 16 w.0 (omega arith) (omega (arith, w.2, within)) w.3, w.4)

-- If the null offset belongs to a block of one number in one map, it does in the other.
pub NamesNull-alike : (f g : ℕ → ℕ) → ((c : ℕ) → c < 0x110000 → f c ≡ g c) → (h : CodePointTrieHeader) (index : List ℕ)
    → h.high_start ≤ 0x110000 → NamesNull h index f → NamesNull h index g
unfolding NamesNull
NamesNull-alike f g same h index within names = λ given.
    let none : ℕ → Type 0 = λ _. Unit {0} in
    SomeHoldsOne-alike f g same h.trie_type h.high_start (λ b. fast_offset index (b * 64) ≡ Some h.data_null_offset)
    (λ b. small_offset h.trie_type index (b * 16) ≡ Some h.data_null_offset) within
    (names (SomeHoldsOne-alike g f (λ c l. sym (same c l)) h.trie_type h.high_start none none within given))

-- If it belongs to no such block in one map, it belongs to none in the other.
pub NamesNoNull-alike : (f g : ℕ → ℕ) → ((c : ℕ) → c < 0x110000 → f c ≡ g c) → (h : CodePointTrieHeader) → h.high_start ≤ 0x110000
    → NamesNoNull h f → NamesNoNull h g
unfolding NamesNoNull
NamesNoNull-alike f g same h within names = λ never.
    let none : ℕ → Type 0 = λ _. Unit {0} in
    names (λ given. never (SomeHoldsOne-alike f g same h.trie_type h.high_start none none within given))

-- If the null value is the default in the absence of such a block in one map, it is in the other.
pub HasDefaultNull-alike : (f g : ℕ → ℕ) → ((c : ℕ) → c < 0x110000 → f c ≡ g c) → (default : ℕ) (h : CodePointTrieHeader)
    → h.high_start ≤ 0x110000 → HasDefaultNull default h f → HasDefaultNull default h g
unfolding HasDefaultNull
HasDefaultNull-alike f g same default h within null = λ never.
    let none : ℕ → Type 0 = λ _. Unit {0} in
    null (λ given. never (SomeHoldsOne-alike f g same h.trie_type h.high_start none none within given))
