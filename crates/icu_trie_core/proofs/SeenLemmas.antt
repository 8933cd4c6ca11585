-- What a walk sees in each part of a trie. Over a coherent trie this is the look-up result.
use Rattle.std.proofs.Common.{◌≡◌, ◌≢◌, inl, inr, ◌≤◌, ◌<◌, ◌*◌, ◌/◌, ◌%◌, ◌+◌, ℕ, List, Option, Some, None, true, slice_get, arith, sym, ap, ◌∙◌, nat_eq, refl}
use Rattle.std.proofs.lemmas.Bool.{lt-ltb, le-ltb, cases_Bool, eqb-true}
use Rattle.std.proofs.lemmas.Bool.Decides.{nat_tests}
use Rattle.icu_trie_core.specs.Contents.{Contents, contents_of}
use Rattle.icu_trie_core.specs.declared.header.CodePointTrieHeader.{CodePointTrieHeader}
use Rattle.icu_trie_core.specs.Format.{answer, fast_limit, fast_offset, small_offset, index2_cell, offset_in_block, high_value}
use Rattle.icu_trie_core.specs.Coherence.{IsCoherent}
use Rattle.icu_trie_core.specs.Seen.{seen, names_null, is_cell}
use Rattle.icu_trie_core.specs.Inside.Walk.{block_seen, cell_seen, blocks_end, fast_end}
use Rattle.icu_trie_core.proofs.AnswerLemmas.{fast_limit_most, fast_answer, fast_none, small_answer, small_none, small_offset_none, none_or_some}

module _ {A : Type 0} (of_number : ℕ → Option A) (h : CodePointTrieHeader) (index : List ℕ) (values : List A) where
  -- Below the fast limit.
  fast_seen : (u offset : ℕ) → u < fast_limit h.trie_type → u < h.high_start → slice_get index (u / 64) ≡ Some offset
      → seen of_number h (contents_of index values) u ≡ block_seen of_number h values offset (u % 64)
  unfolding seen
  fast_seen u offset fast below is =
      let most = (fast_limit_most h.trie_type).0 in
      rw (
        lt-ltb u h.high_start below,
        lt-ltb u (fast_limit h.trie_type) fast,
        is,
        fast_answer h index values u offset (omega (arith, most, fast)) fast is,
      ) refl

  pub seen-fast_missing : (u : ℕ) → u < fast_limit h.trie_type → u < h.high_start → slice_get index (u / 64) ≡ None
      → seen of_number h (contents_of index values) u ≡ None
  unfolding seen
  seen-fast_missing u fast below is =
      let most = (fast_limit_most h.trie_type).0 in
      rw (
        lt-ltb u h.high_start below,
        lt-ltb u (fast_limit h.trie_type) fast,
        is,
        fast_none h index values u (omega (arith, most, fast)) fast is,
      ) refl

  -- At or above the fast limit.
  small_seen : (u cell : ℕ) → u < 0x110000 → fast_limit h.trie_type ≤ u → u < h.high_start → index2_cell h.trie_type index u ≡ Some cell
      → small_offset h.trie_type index u ≡ offset_in_block index cell (u / 16 % 32)
      → seen of_number h (contents_of index values) u ≡ cell_seen of_number h (contents_of index values) cell (u % 512)
  unfolding seen cell_seen
  small_seen u cell within from below two three =
      let p : u % 512 / 16 ≡ u / 16 % 32 = omega arith in
      let q : u % 512 % 16 ≡ u % 16 = omega arith in
      elim (none_or_some (offset_in_block index cell (u / 16 % 32))) [
        | inl none ↦
            let a = small_none h index values u within from below (three ∙ none) in
            rw (lt-ltb u h.high_start below, le-ltb u (fast_limit h.trie_type) from, two, p, q, three, none, a) (
            elim (cases_Bool (nat_eq cell h.index3_null_offset)) [ inl e ↦ rw e refl | inr e ↦ rw e refl ])
        | inr some ↦
            let a = small_answer h index values u some.0 within from below (three ∙ some.1) in
            rw (lt-ltb u h.high_start below, le-ltb u (fast_limit h.trie_type) from, two, p, q, three, some.1, a) (
            elim (cases_Bool (nat_eq cell h.index3_null_offset)) [ inl e ↦ rw e refl | inr e ↦ rw e refl ])
      ]

  pub seen-cell_missing : (u : ℕ) → u < 0x110000 → fast_limit h.trie_type ≤ u → u < h.high_start → index2_cell h.trie_type index u ≡ None
      → seen of_number h (contents_of index values) u ≡ None
  unfolding seen
  seen-cell_missing u within from below two =
      let three = small_offset_none h.trie_type index u two in
      rw (
        lt-ltb u h.high_start below,
        le-ltb u (fast_limit h.trie_type) from,
        two,
        three,
        small_none h index values u within from below three,
      ) refl

module _ {A : Type 0} (of_number : ℕ → Option A) (h : CodePointTrieHeader) (cells : Contents A) where
  -- In the first len positions of block number b of 64.
  pub seen-fast_block : (b : ℕ) {offset len : ℕ} → b * 64 + len ≤ fast_end h → len ≤ 64 → slice_get cells.index b ≡ Some offset
      → (i : ℕ) → i < len → seen of_number h cells (b * 64 + i) ≡ block_seen of_number h cells.values offset i
  seen-fast_block b {offset} {len} fits short is i lt =
      let block : (b * 64 + i) / 64 ≡ b = omega (arith, lt, short) in
      let place : (b * 64 + i) % 64 ≡ i = omega (arith, lt, short) in
      fast_seen of_number h cells.index cells.values (b * 64 + i) offset (omega (arith, lt, fits)) (omega (arith, lt, fits)) (rw block is)
      ∙ ap (λ k. block_seen of_number h cells.values offset k) place

  -- In the first len positions of a block of 512.
  pub seen-cell : (base : ℕ) {cell len : ℕ} → base % 512 ≡ 0 → fast_limit h.trie_type ≤ base → base + len ≤ blocks_end h → len ≤ 512
      → index2_cell h.trie_type cells.index base ≡ Some cell
      → (i : ℕ) → i < len → seen of_number h cells (base + i) ≡ cell_seen of_number h cells cell i
  unfolding small_offset
  seen-cell base {cell} {len} aligned from fits short two i lt =
      let a : (base + i) / 512 ≡ base / 512 = omega (arith, aligned, lt, short) in
      let b : (base + i) / 16384 ≡ base / 16384 = omega (arith, aligned, lt, short) in
      let place : (base + i) % 512 ≡ i = omega (arith, aligned, lt, short) in
      small_seen of_number h cells.index cells.values (base + i) cell (omega (arith, lt, fits)) (omega (arith, from))
      (omega (arith, lt, fits)) (rw (a, b) two) (rw (a, b, two) refl) ∙ ap (λ k. cell_seen of_number h cells cell k) place

  -- In the first len positions of block number p of 16, in a block of 512 that is not named as
  -- null.
  pub cell_seen-block : (cell p : ℕ) {offset len : ℕ} → cell ≢ h.index3_null_offset → len ≤ 16
      → offset_in_block cells.index cell p ≡ Some offset
      → (i : ℕ) → i < len → cell_seen of_number h cells cell (p * 16 + i) ≡ block_seen of_number h cells.values offset i
  unfolding cell_seen
  cell_seen-block cell p differs short is i lt =
      let a : (p * 16 + i) / 16 ≡ p = omega (arith, lt, short) in
      let b : (p * 16 + i) % 16 ≡ i = omega (arith, lt, short) in
      elim (cases_Bool (nat_eq cell h.index3_null_offset)) [
        | inl e ↦ absurd (differs (eqb-true cell h.index3_null_offset e))
        | inr e ↦ rw (e, a, b, is) refl
      ]

  pub cell_seen-missing : (cell p : ℕ) → cell ≢ h.index3_null_offset → offset_in_block cells.index cell p ≡ None
      → cell_seen of_number h cells cell (p * 16) ≡ None
  unfolding cell_seen
  cell_seen-missing cell p differs is =
      let a : p * 16 / 16 ≡ p = omega arith in
      elim (cases_Bool (nat_eq cell h.index3_null_offset)) [
        | inl e ↦ absurd (differs (eqb-true cell h.index3_null_offset e))
        | inr e ↦ rw (e, a, is) refl
      ]

  -- At or above the high start.
  pub seen-from_high : (u : ℕ) → h.high_start ≤ u → seen of_number h cells u ≡ high_value cells.values
  unfolding seen
  seen-from_high u from = rw (le-ltb u h.high_start from) refl

cell_is : (n : ℕ) (o : Option ℕ) → is_cell n o ≡ true → o ≡ Some n
cell_is n None e = cc
cell_is n (Some x) e = grind (arith, nat_tests)

module _ {A : Type 0} (of_number : ℕ → Option A) (h : CodePointTrieHeader) (index : List ℕ) (values : List A)
    (c : IsCoherent of_number h (contents_of index values)) where
  fast_null : (u : ℕ) → u < fast_limit h.trie_type → u < h.high_start → fast_offset index u ≡ Some h.data_null_offset
      → answer h (contents_of index values) u ≡ of_number h.null_value
  fast_null u l k e =
      let a : u / 64 * 64 / 64 ≡ u / 64 = omega arith in
      let d : fast_offset index (u / 64 * 64) ≡ Some h.data_null_offset = rw a e in
      let b : u / 64 * 64 + u % 64 ≡ u = omega arith in
      rw (sym b) (c.null_64 (u / 64) (omega (arith, l)) (omega (arith, k)) d (u % 64) (omega arith))

  small_null : (u : ℕ) → fast_limit h.trie_type ≤ u → u < h.high_start → small_offset h.trie_type index u ≡ Some h.data_null_offset
      → answer h (contents_of index values) u ≡ of_number h.null_value
  unfolding small_offset
  small_null u l k e =
      let f = fast_limit_most h.trie_type in
      let a : u / 16 * 16 / 16 % 32 ≡ u / 16 % 32 = omega arith in
      let a2 : u / 16 * 16 / 0x200 % 32 ≡ u / 0x200 % 32 = omega arith in
      let a3 : u / 16 * 16 / 0x4000 ≡ u / 0x4000 = omega arith in
      let d : small_offset h.trie_type index (u / 16 * 16) ≡ Some h.data_null_offset = rw (a, a2, a3) e in
      let b : u / 16 * 16 + u % 16 ≡ u = omega arith in
      rw (sym b) (c.null_16 (u / 16) (omega (arith, l, f)) (omega (arith, k)) d (u % 16) (omega arith))

  null_cell : (u : ℕ) → fast_limit h.trie_type ≤ u → u < h.high_start → index2_cell h.trie_type index u ≡ Some h.index3_null_offset
      → answer h (contents_of index values) u ≡ of_number h.null_value
  null_cell u l k e =
      let f = fast_limit_most h.trie_type in
      let a2 : u / 512 * 512 / 0x200 % 32 ≡ u / 0x200 % 32 = omega arith in
      let a3 : u / 512 * 512 / 0x4000 ≡ u / 0x4000 = omega arith in
      let d : index2_cell h.trie_type index (u / 512 * 512) ≡ Some h.index3_null_offset = rw (a2, a3) e in
      let b : u / 512 * 512 + u % 512 ≡ u = omega arith in
      rw (sym b) (c.null_512 (u / 512) (omega (arith, l, f)) (omega (arith, k)) d (u % 512) (omega arith))

  answer-null : (u : ℕ) → u < h.high_start → names_null h index u ≡ true → answer h (contents_of index values) u ≡ of_number h.null_value
  answer-null u k e = grind (
    arith,
    nat_tests,
    fast_null u,
    small_null u,
    null_cell u,
    cell_is h.data_null_offset (fast_offset index u),
    cell_is h.data_null_offset (small_offset h.trie_type index u),
    cell_is h.index3_null_offset (index2_cell h.trie_type index u),
  )

  pub seen-below : (u : ℕ) → u < h.high_start → seen of_number h (contents_of index values) u ≡ answer h (contents_of index values) u
  unfolding seen
  seen-below u k = let e = answer-null u k in grind (arith, nat_tests, e)

  pub seen-high : (u : ℕ) → h.high_start ≤ u → u < 0x110000
      → seen of_number h (contents_of index values) u ≡ answer h (contents_of index values) u
  unfolding seen
  seen-high u k l = let e = c.high u k l in grind (arith, nat_tests, e)
