-- The look-up results of a trie over placed data. The trie is coherent and shared.
use Rattle.std.proofs.Common.{◌≡◌, inl, inr, ℕ, ◌+◌, ◌-◌, ◌*◌, ◌/◌, ◌%◌, ◌<◌, ◌≤◌, false, List, length, get_or, take, arith, sym, ap, ◌∙◌, refl, Option, Some, unwrap_or, IsSome, nat_lt, slice_get}
use Rattle.std.proofs.lemmas.Bool.{cases_lt, le-ltb}
use Rattle.std.proofs.lemmas.List.{same_lists, get_or_default, get_or-take, length-take}
use Rattle.std.proofs.lemmas.List.Folds.{list_any_none}
use Rattle.std.proofs.lemmas.List.FromFn.{get_or-map-range_with_len}
use Rattle.std.proofs.lemmas.Option.{slice_get-get_or, slice_get_within}
use Rattle.icu_trie_core.specs.Contents.{contents_of}
use Rattle.icu_trie_core.specs.declared.header.TrieType.{TrieType}
use Rattle.icu_trie_core.specs.declared.header.TrieType.TheVariants.{Fast, Small}
use Rattle.icu_trie_core.specs.declared.header.CodePointTrieHeader.{CodePointTrieHeader}
use Rattle.icu_trie_core.specs.Blocks.{window, block, block_of, count_different}
use Rattle.icu_trie_core.specs.Format.{answer, fast_limit, high_value}
use Rattle.icu_trie_core.specs.FastIndex.{fast_index_len, passes_data}
use Rattle.icu_trie_core.specs.Coherence.{IsCoherent, IsShared, SameAnswers}
use Rattle.icu_trie_core.proofs.CallerLemmas.{fast_answer, small_answer}
use Rattle.icu_trie_builder.specs.Inside.Index.Layout.{AllBelow, IsIndex, IsNullIndex}
use Rattle.icu_trie_builder.specs.Inside.Data.{IsData, SameNumbers}
use Rattle.icu_trie_builder.specs.NullBlock.{NamesNoNull, NamesNull, NamesNullIndex}
use Rattle.icu_trie_builder.proofs.CompactionLemmas.Different.{count_different-by, count_different-within}
use Rattle.icu_trie_builder.proofs.CompactionLemmas.Windows.{length-window, window-read}
use Rattle.icu_trie_builder.proofs.IndexLemmas.Laying.{parts}

some-injective : (x y : ℕ) → Some x ≡ Some y → x ≡ y
some-injective x y e = ap (λ o. unwrap_or o x) e

some-is : (o : Option ℕ) (x : ℕ) → o ≡ Some x → IsSome o
some-is o x e = rw e refl

-- The look-up result from the high start on.
high_answer : (h : CodePointTrieHeader) (index values : List ℕ) (u : ℕ) → u < 1114112 → fast_limit h.trie_type ≤ u → h.high_start ≤ u
    → answer h (contents_of index values) u ≡ high_value values
unfolding answer
high_answer h index values u within from above =
    rw (le-ltb 1114111 u (omega (arith, within)), le-ltb u (fast_limit h.trie_type) from, le-ltb u h.high_start above) refl

-- A number in a block of a map.
block_read : (f : ℕ → ℕ) (k b d n : ℕ) → n < k → block_of k f b ≡ block_of k f d → f (b * k + n) ≡ f (d * k + n)
unfolding block_of
block_read f k b d n l e =
    let z = f 0 in
    ap f (omega arith) ∙ (sym (get_or-map-range_with_len f (k * b) k n (k * b + n) z l refl)
    ∙ (ap (λ xs. get_or xs n z) e ∙ (get_or-map-range_with_len f (k * d) k n (k * d + n) z l refl ∙ ap f (omega arith))))

-- The fast index has a cell for each block of 64 below the fast limit.
pub fast_index_len-limit : (trie_type : TrieType) → fast_index_len trie_type ≡ fast_limit trie_type / 64
fast_index_len-limit Fast = refl
fast_index_len-limit Small = refl

module _ (trie_type : TrieType) (high null value : ℕ) (f : ℕ → ℕ) (fast small values : List ℕ) (aligned : high % 512 ≡ 0)
    (within : high ≤ 1114112)
    (p : IsData trie_type high null value f fast small values) where
  -- Blocks of 512 with the same numbers have the same offsets.
  pub offsets_same : (b d : ℕ) → fast_limit trie_type ≤ b * 512 → b * 512 < high → fast_limit trie_type ≤ d * 512 → d * 512 < high
      → SameNumbers f 512 b d
      → window 32 (32 * (b - fast_limit trie_type / 512)) small ≡ window 32 (32 * (d - fast_limit trie_type / 512)) small
  offsets_same b d b0 b1 d0 d1 same =
      let t = parts trie_type in
      let first : ℕ = fast_limit trie_type / 512 in
      let long = p.small_len in
      let lb : length (window 32 (32 * (b - first)) small) ≡ 32 =
      length-window 32 (32 * (b - first)) small (omega (arith, long, t.1, b0, b1, aligned)) in
      let ld : length (window 32 (32 * (d - first)) small) ≡ 32 =
      length-window 32 (32 * (d - first)) small (omega (arith, long, t.1, d0, d1, aligned)) in
      same_lists (window 32 (32 * (b - first)) small) (window 32 (32 * (d - first)) small) (lb ∙ sym ld)
      (λ q z l.
      let lt : q < 32 = omega (arith, l, lb) in
      let one = p.shared_small (32 * b + q) (32 * d + q) (omega (arith, b0, t.1)) (omega (arith, d0, t.1)) (omega (arith, b1, aligned, lt))
      (omega (arith, d1, aligned, lt))
      (λ i li. ap f (omega arith) ∙ (same (16 * q + i) (omega (arith, lt, li)) ∙ ap f (omega arith))) in
      window-read 32 (32 * (b - first)) q small z lt
      ∙ (get_or_default small (32 * (b - first) + q) z 0 (omega (arith, long, t.1, b0, b1, aligned, lt))
      ∙ (ap (λ n. get_or small n 0) (omega (arith, t.1, b0)) ∙ (one ∙ (ap (λ n. get_or small n 0) (omega (arith, t.1, d0))
      ∙ (get_or_default small (32 * (d - first) + q) 0 z (omega (arith, long, t.1, d0, d1, aligned, lt))
      ∙ sym (window-read 32 (32 * (d - first)) q small z lt)))))))

  -- There are at most as many distinct lists of 32 offsets as distinct blocks of 512 from the fast
  -- limit on.
  pub few_offsets : count_different (block 32 small) 0 (length small / 32) ≤ count_different (block_of 512 f) (fast_limit trie_type / 512)
      (2176 - fast_limit trie_type / 512)
  few_offsets =
      let t = parts trie_type in
      let first : ℕ = fast_limit trie_type / 512 in
      let long = p.small_len in
      count_different-by (block 32 small) (block_of 512 f) 0 first (length small / 32) (2176 - first)
      (omega (arith, long, within, aligned, t.1, t.2))
      (λ i j li lj e.
      let same : SameNumbers f 512 (first + i) (first + j) = λ n l. block_read f 512 (first + i) (first + j) n l e in
      let one = offsets_same (first + i) (first + j) (omega (arith, t.1)) (omega (arith, li, long, aligned, t.1)) (omega (arith, t.1))
      (omega (arith, lj, long, aligned, t.1)) same in
      ap (λ n. window 32 (32 * n) small) (omega arith) ∙ (one ∙ ap (λ n. window 32 (32 * n) small) (omega arith)))

  -- There are also at most as many as distinct blocks of 512 in all.
  pub few_all : count_different (block 32 small) 0 (length small / 32) ≤ count_different (block_of 512 f) 0 2176
  few_all =
      let t = parts trie_type in
      let first : ℕ = fast_limit trie_type / 512 in
      omega (
        arith,
        few_offsets,
        count_different-within (block_of 512 f)
            (block_of 512 f) first (2176 - first) 0 2176 (λ j l l'. (j, omega arith, omega (arith, l', t.2), refl)),
      )

  -- Blocks of 16 are inside the data.
  pub small_inside : (j : ℕ) → j < length small → get_or small j 0 + 16 ≤ length values
  small_inside j l =
      let t = parts trie_type in
      let u : ℕ = 16 * (j + fast_limit trie_type / 16) + 15 in
      let cell = p.on_small u (omega (arith, t.1)) (omega (arith, t.1, l, p.small_len, aligned)) in
      let at : get_or small (u / 16 - fast_limit trie_type / 16) 0 ≡ get_or small j 0 = ap (λ n. get_or small n 0) (omega arith) in
      let last : u % 16 ≡ 15 = omega arith in
      let there = slice_get_within values (get_or small (u / 16 - fast_limit trie_type / 16) 0 + u % 16) (f u) cell in
      omega (arith, there, at, last)

  -- Their offsets have 16 bits if the data are small.
  pub small_low : length values ≤ 0x10000 → AllBelow 0x10000 small
  small_low le = λ j l. omega (arith, small_inside j l, le)

module _ (h : CodePointTrieHeader) (f : ℕ → ℕ) (fast small index values : List ℕ) (aligned : h.high_start % 512 ≡ 0)
    (within : h.high_start ≤ 1114112)
    (x : IsIndex h.trie_type h.high_start fast small index)
    (p : IsData h.trie_type h.high_start h.data_null_offset h.null_value f fast small values) where
  pub answers : (c : ℕ) → c < 1114112 → answer h (contents_of index values) c ≡ Some (f c)
  answers c lt = elim (cases_lt c (fast_limit h.trie_type)) [
    | inl below ↦ fast_answer h index values c (get_or fast (c / 64) 0) lt below (x.on_fast c below) ∙ p.on_fast c below
    | inr from ↦ elim (cases_lt c h.high_start) [
      | inl below ↦ small_answer h index values c (get_or small (c / 16 - fast_limit h.trie_type / 16) 0) lt from below
          (x.gives.on_small c from below) ∙ p.on_small c from below
      | inr above ↦ high_answer h index values c lt from above ∙ p.on_high c above lt
    ]
  ]

  numbers_same : (k b d : ℕ) → b * k + k ≤ 1114112 → d * k + k ≤ 1114112 → SameAnswers h (contents_of index values) k b d
      → SameNumbers f k b d
  numbers_same k b d b1 d1 same i l = some-injective (f (b * k + i)) (f (d * k + i))
      (sym (answers (b * k + i) (omega (arith, l, b1))) ∙ (same i l ∙ answers (d * k + i) (omega (arith, l, d1))))

  -- Blocks at the null offset have the null value throughout.
  pub coherent : IsNullIndex h.trie_type h.high_start h.data_null_offset small index h.index3_null_offset
      → IsCoherent Some h (contents_of index values)
  coherent cells =
      let t = parts h.trie_type in
      record {
        aligned = aligned;
        within = within;
        high = λ c above lt. (answers c lt ∙ sym (p.on_high c above lt), some-is (high_value values) (f c) (p.on_high c above lt));
        inside = λ c below. some-is (answer h (contents_of index values) c) (f c) (answers c (omega (arith, below, within)));
        null_64 = λ b low below is i l.
            let at = some-injective (get_or fast (b * 64 / 64) 0) h.data_null_offset (sym (x.on_fast (b * 64) low) ∙ is) in
            let same : b * 64 / 64 ≡ b = omega arith in
            answers (b * 64 + i) (omega (arith, low, l, t.1, t.2))
            ∙ ap (λ n. Some n) (p.null_fast b i (omega (arith, low, t.1)) l (ap (λ j. get_or fast j 0) (sym same) ∙ at));
        null_16 = λ b from below is i l.
            let at = some-injective (get_or small (b * 16 / 16 - fast_limit h.trie_type / 16) 0) h.data_null_offset
            (sym (x.gives.on_small (b * 16) from below) ∙ is) in
            let same : b * 16 / 16 ≡ b = omega arith in
            answers (b * 16 + i) (omega (arith, below, l, aligned, within))
            ∙ ap (λ n. Some n) (p.null_small b i (omega (arith, from, t.1)) below l
            (ap (λ j. get_or small (j - fast_limit h.trie_type / 16) 0) (sym same) ∙ at));
        null_512 = λ b from below is i l.
            let c : ℕ = 32 * b + i / 16 in
            let at : get_or small (c - fast_limit h.trie_type / 16) 0 ≡ h.data_null_offset =
            ap (λ n. get_or small n 0) (omega (arith, t.1, from)) ∙ cells.only b from below is (i / 16) (omega (arith, l)) in
            let one = p.null_small c (i % 16) (omega (arith, from, t.1)) (omega (arith, below, l, aligned)) (omega arith) at in
            answers (b * 512 + i) (omega (arith, below, l, aligned, within)) ∙ (ap (λ n. Some (f n)) (omega arith) ∙ ap (λ n. Some n) one);
      }

  -- The header names a block of one number.
  pub names_null : NamesNull h index f
  unfolding NamesNull
  names_null = λ e. elim (p.names_null e) [
    | inl w ↦
        let same : w.0 * 64 / 64 ≡ w.0 = omega arith in
        inl (w.0, w.1, w.2, x.on_fast (w.0 * 64) w.1 ∙ ap (λ n. Some n) (ap (λ j. get_or fast j 0) same ∙ w.3))
    | inr w ↦
        let same : w.0 * 16 / 16 ≡ w.0 = omega arith in
        inr (
          w.0,
          w.1,
          w.2,
          w.3,
          x.gives.on_small (w.0 * 16) w.1 w.2
              ∙ ap (λ n. Some n) (ap (λ j. get_or small (j - fast_limit h.trie_type / 16) 0) same ∙ w.4),
        )
  ]

  -- If there is none, it names no block.
  pub names_no_null : NamesNoNull h f
  unfolding NamesNoNull
  names_no_null = p.no_null

  -- Blocks of 512 that are null throughout have the same cell.
  pub names_null_index : IsNullIndex h.trie_type h.high_start h.data_null_offset small index h.index3_null_offset → NamesNullIndex h index
  unfolding NamesNullIndex
  names_null_index cells = λ b from below all.
      let t = parts h.trie_type in
      cells.has b from below (λ q l.
      let u : ℕ = b * 512 + 16 * q in
      let cell = x.gives.on_small u (omega (arith, from)) (omega (arith, below, l, aligned)) in
      ap (λ n. get_or small n 0) (omega (arith, from, t.1))
      ∙ some-injective (get_or small (u / 16 - fast_limit h.trie_type / 16) 0) h.data_null_offset (sym cell ∙ all q l))

  pub shared : IsShared h (contents_of index values)
  shared = record {
    fast = λ b d sb sd same.
        let t = parts h.trie_type in
        let one = p.shared_fast b d (omega (arith, sb.0)) (omega (arith, sd.0)) (omega (arith, sb.1, t.1)) (omega (arith, sd.1, t.1))
        (numbers_same 64 b d (omega (arith, sb.1, t.2)) (omega (arith, sd.1, t.2)) same) in
        x.on_fast (b * 64) sb.1 ∙ (ap (λ n. Some (get_or fast n 0)) (omega arith)
        ∙ (ap (λ n. Some n) one ∙ (ap (λ n. Some (get_or fast n 0)) (omega arith) ∙ sym (x.on_fast (d * 64) sd.1))));
    small = λ b d sb sd same.
        let one = p.shared_small b d (omega (arith, sb.0)) (omega (arith, sd.0)) sb.2 sd.2
        (numbers_same 16 b d (omega (arith, sb.2, aligned, within)) (omega (arith, sd.2, aligned, within)) same) in
        x.gives.on_small (b * 16) sb.0 sb.2 ∙ (ap (λ n. Some (get_or small n 0)) (omega arith)
        ∙ (ap (λ n. Some n) one ∙ (ap (λ n. Some (get_or small n 0)) (omega arith) ∙ sym (x.gives.on_small (d * 16) sd.0 sd.2))));
    index2 = λ b d sb sd same. x.gives.on_cells b d sb.0 sb.2 sd.0 sd.2
        (offsets_same h.trie_type h.high_start h.data_null_offset h.null_value f fast small values aligned within p b d sb.0 sb.2 sd.0 sd.2
        (numbers_same 512 b d (omega (arith, sb.2, aligned, within)) (omega (arith, sd.2, aligned, within)) same));
  }

  -- Every block of 64 that the fast index names is inside the data.
  pub fast_within : passes_data h.trie_type index (length values) ≡ false
  fast_within =
      let n : ℕ = fast_index_len h.trie_type in
      let limit : n ≡ fast_limit h.trie_type / 64 = fast_index_len-limit h.trie_type in
      let t = parts h.trie_type in
      list_any_none (λ offset. nat_lt (length values) (offset + 64)) (take n index) (λ k d l.
      let lt : k < n = omega (arith, l, length-take n index) in
      let there : k < length index = omega (arith, l, length-take n index) in
      let at : 64 * k / 64 ≡ k = omega arith in
      let cell = x.on_fast (64 * k) (omega (arith, lt, limit, t.1)) in
      let same : get_or index k 0 ≡ get_or fast k 0 =
      some-injective (get_or index k 0) (get_or fast k 0)
      (sym (slice_get-get_or index k 0 there)
      ∙ (ap (λ i. slice_get index i) (sym at) ∙ (cell ∙ ap (λ i. Some (get_or fast i 0)) at))) in
      let read : get_or (take n index) k d ≡ get_or fast k 0 = get_or-take n index k d lt ∙ (get_or_default index k d 0 there ∙ same) in
      let inside = p.fast_inside k (omega (arith, lt, limit, p.fast_len)) in
      le-ltb (length values) (get_or (take n index) k d + 64) (omega (arith, read, inside)))
