-- A trie is coherent exactly if its blocks satisfy `AreCoherentBlocks`.
use Rattle.std.proofs.Common.{◌≡◌, inl, inr, ℕ, ◌+◌, ◌-◌, ◌*◌, ◌/◌, ◌%◌, ◌<◌, ◌≤◌, List, length, slice_get, Option, Some, None, IsSome, IsSomeAnd, nat_eq, Bool, true, false, not, sym, ap, ◌∙◌, arith, refl}
use Rattle.std.proofs.lemmas.Bool.{cases_lt, le-ltb, false≢true, eqb-true}
use Rattle.std.proofs.lemmas.Option.{slice_get_within, slice_get_cases}
use Rattle.std.specs.Option.{option_eq}
use Rattle.icu_trie_core.specs.Contents.{contents_of}
use Rattle.icu_trie_core.specs.declared.header.TrieType.{TrieType}
use Rattle.icu_trie_core.specs.declared.header.CodePointTrieHeader.{CodePointTrieHeader}
use Rattle.icu_trie_core.specs.Format.{answer, fast_limit, fast_offset, small_offset, index2_cell, offset_in_block, high_value}
use Rattle.icu_trie_core.specs.Coherence.{IsCoherent}
use Rattle.icu_trie_core.specs.Inside.CoherentBlocks.{AreAll, NamesOffsets, IsNullBlock, IsBlock, IsCell, AreFastBlocks, AreSmallBlocks, AreHighBlocks, HasHighValue, AreCoherentBlocks}
use Rattle.icu_trie_core.proofs.AnswerLemmas.{none_or_some, fast_limit_most, fast_answer, fast_none, small_answer, small_none, small_offset_at, small_offset_none}

-- An element that exists, with the property it satisfies.
pub some_and : {A : Type 0} (o : Option A) (P : A → Type 0) → IsSomeAnd o P → (x : A) × (o ≡ Some x) × P x
some_and None P e = absurd e
some_and (Some x) P e = (x, refl, e)

pub and_some : {A : Type 0} (o : Option A) (P : A → Type 0) (x : A) → o ≡ Some x → P x → IsSomeAnd o P
and_some o P x is p = rw is p

there : {A : Type 0} (o : Option A) (x : A) → o ≡ Some x → IsSome o
there o x is = rw is refl

not_there : {A : Type 0} (o : Option A) → o ≡ None → IsSome o → ⊥
not_there o is e = false≢true (rw is at e)

within : {A : Type 0} (xs : List A) (i : ℕ) → IsSome (slice_get xs i) → i < length xs
within xs i e = elim (none_or_some (slice_get xs i)) [
  | inl none ↦ absurd (not_there (slice_get xs i) none e)
  | inr some ↦ slice_get_within xs i some.0 some.1
]

-- A block of 16 has one data offset.
small_offset_in : (kind : TrieType) (index : List ℕ) (b i : ℕ) → i < 16
    → small_offset kind index (b * 16 + i) ≡ small_offset kind index (b * 16)
unfolding small_offset
small_offset_in kind index b i lt =
    let two : (b * 16 + i) / 512 ≡ b * 16 / 512 = omega (arith, lt) in
    let one : (b * 16 + i) / 16384 ≡ b * 16 / 16384 = omega (arith, lt) in
    let three : (b * 16 + i) / 16 ≡ b * 16 / 16 = omega (arith, lt) in
    rw (two, one, three) refl

module _ {A : Type 0} (of_number : ℕ → Option A) (h : CodePointTrieHeader) (values : List A) where
  -- A null block is inside the data.
  pub IsNullBlock-fits : (k offset : ℕ) → 0 < k → IsNullBlock of_number h values k offset → offset + k ≤ length values
  IsNullBlock-fits k offset some null =
      let n = some_and (of_number h.null_value) (AreAll values k offset) null in
      let lt = slice_get_within values (offset + (k - 1)) n.0 (n.2 (k - 1) (omega (arith, some))) in
      omega (arith, lt, some)

  IsNullBlock-from_cells : (k offset : ℕ) → 0 < k → offset + k ≤ length values
      → ((i : ℕ) → i < k → slice_get values (offset + i) ≡ of_number h.null_value) → IsNullBlock of_number h values k offset
  IsNullBlock-from_cells k offset some fits all = elim (none_or_some (of_number h.null_value)) [
    | inl none ↦
        elim (slice_get_cases values (offset + 0)).1 [
          | inl p ↦ let first = all 0 some in let is = p.2 in absurd (cc)
          | inr p ↦ let past = p.0 in absurd (omega (arith, past, fits, some))
        ]
    | inr n ↦ and_some (of_number h.null_value) (AreAll values k offset) n.0 n.1 (λ i lt. all i lt ∙ n.1)
  ]

  -- The cells of a null block.
  cell-null : (k offset i : ℕ) → i < k → IsNullBlock of_number h values k offset → slice_get values (offset + i) ≡ of_number h.null_value
  cell-null k offset i lt null =
      let n = some_and (of_number h.null_value) (AreAll values k offset) null in
      n.2 i lt ∙ sym n.1

  -- The cells of a block.
  cell-there : (k offset i : ℕ) → i < k → IsBlock of_number h values k offset → IsSome (slice_get values (offset + i))
  cell-there k offset i lt block =
      let fits = block.0 in
      elim (slice_get_cases values (offset + i)).1 [
        | inl p ↦ there (slice_get values (offset + i)) p.0 p.2
        | inr p ↦ let past = p.0 in absurd (omega (arith, past, fits, lt))
      ]

-- The null index-2 cell is valid if its blocks are null.
pub null_cell_is : {A : Type 0} (of_number : ℕ → Option A) (h : CodePointTrieHeader) (index : List ℕ) (values : List A) (cell : ℕ)
    → cell ≡ h.index3_null_offset
    → NamesOffsets index h.index3_null_offset (IsNullBlock of_number h values 16) → IsCell of_number h (contents_of index values) cell
null_cell_is of_number h index values cell is null = rw is (
  λ p lt. blocks (offset_in_block index h.index3_null_offset p) (null p lt),
  λ _. null,
)
  where
    blocks : (o : Option ℕ) → IsSomeAnd o (IsNullBlock of_number h values 16) → IsSomeAnd o (IsBlock of_number h values 16)
    blocks None e = absurd e
    blocks (Some offset) e = (IsNullBlock-fits of_number h values 16 offset (omega arith) e, λ _. e)

-- The blocks up to and including the next one, whose cell is known.
pub blocks_next : (low block cell : ℕ) (f : ℕ → Option ℕ) (P : ℕ → Type 0) → ((b : ℕ) → low ≤ b * 512 → b < block → IsSomeAnd (f b) P)
    → f block ≡ Some cell → P cell
    → (b : ℕ) → low ≤ b * 512 → b < block + 1 → IsSomeAnd (f b) P
blocks_next low block cell f P before is holds b from lt = elim (cases_lt b block) [
  | inl p ↦ before b from p
  | inr p ↦ let same : b ≡ block = omega (arith, p, lt) in rw same (and_some (f block) P cell is holds)
]

not_false : (b : Bool) → not b ≡ false → b ≡ true
not_false true e = refl
not_false false e = cc

-- If the comparison of two options finds no difference, they are equal.
pub same_option : (o : Option ℕ) (x : ℕ) → not (option_eq nat_eq o (Some x)) ≡ false → o ≡ Some x
same_option None x e = cc
same_option (Some y) x e = ap (λ n. Some n) (eqb-true y x (not_false (nat_eq y x) e))

module _ {A : Type 0} (h : CodePointTrieHeader) (index : List ℕ) (values : List A) where
  -- A position in a block of 64 below the fast limit.
  answer-fast : (b offset i : ℕ) → b * 64 < fast_limit h.trie_type → slice_get index b ≡ Some offset → i < 64
      → answer h (contents_of index values) (b * 64 + i) ≡ slice_get values (offset + i)
  answer-fast b offset i fast is lt =
      let most = fast_limit_most h.trie_type in
      let here : (b * 64 + i) / 64 ≡ b = omega (arith, lt) in
      let place : (b * 64 + i) % 64 ≡ i = omega (arith, lt) in
      fast_answer h index values (b * 64 + i) offset (omega (arith, most, fast, lt)) (omega (arith, most, fast, lt)) (rw here is)
      ∙ ap (λ n. slice_get values (offset + n)) place

  answer-fast_missing : (b : ℕ) → b * 64 < fast_limit h.trie_type → slice_get index b ≡ None
      → answer h (contents_of index values) (b * 64) ≡ None
  answer-fast_missing b fast is =
      let most = fast_limit_most h.trie_type in
      let here : b * 64 / 64 ≡ b = omega arith in
      fast_none h index values (b * 64) (omega (arith, most, fast)) fast (rw here is)

  -- At or above both the fast limit and the high start.
  answer-high : (u : ℕ) → u < 0x110000 → fast_limit h.trie_type ≤ u → h.high_start ≤ u
      → answer h (contents_of index values) u ≡ high_value values
  unfolding answer
  answer-high u lt from high = rw (le-ltb 1114111 u (omega (arith, lt)), le-ltb u (fast_limit h.trie_type) from, le-ltb u h.high_start high)
      refl

  module _ (aligned : h.high_start % 512 ≡ 0) (most : h.high_start ≤ 0x110000) (b : ℕ) (from : fast_limit h.trie_type ≤ b * 512)
      (below : b * 512 < h.high_start) where
    answer-cell_missing : index2_cell h.trie_type index (b * 512) ≡ None → answer h (contents_of index values) (b * 512) ≡ None
    answer-cell_missing none = small_none h index values (b * 512)
        (omega (arith, below, most)) from below (small_offset_none h.trie_type index (b * 512) none)

    module _ (cell : ℕ) (two : index2_cell h.trie_type index (b * 512) ≡ Some cell) (p : ℕ) (in_cell : p < 32) where
      -- The data offset of a block of 16.
      offset-at : (i : ℕ) → i < 16 → small_offset h.trie_type index (b * 512 + (p * 16 + i)) ≡ offset_in_block index cell p
      offset-at i lt =
          let here : (p * 16 + i) / 16 ≡ p = omega (arith, lt) in
          small_offset_at h.trie_type index (b * 512) cell (p * 16 + i) (omega arith) (omega (arith, lt, in_cell)) two
          ∙ ap (λ n. offset_in_block index cell n) here

      answer-small : (offset i : ℕ) → offset_in_block index cell p ≡ Some offset → i < 16
          → answer h (contents_of index values) (b * 512 + (p * 16 + i)) ≡ slice_get values (offset + i)
      answer-small offset i three lt =
          let place : (b * 512 + (p * 16 + i)) % 16 ≡ i = omega (arith, lt) in
          small_answer h index values (b * 512 + (p * 16 + i)) offset (omega (arith, below, most, aligned, in_cell, lt))
          (omega (arith, from)) (omega (arith, below, aligned, in_cell, lt)) (offset-at i lt ∙ three)
          ∙ ap (λ n. slice_get values (offset + n)) place

      answer-offset_missing : offset_in_block index cell p ≡ None → answer h (contents_of index values) (b * 512 + (p * 16 + 0)) ≡ None
      answer-offset_missing none =
          small_none h index values (b * 512 + (p * 16 + 0)) (omega (arith, below, most, aligned, in_cell)) (omega (arith, from))
          (omega (arith, below, aligned, in_cell)) (offset-at 0 (omega arith) ∙ none)

module _ {A : Type 0} (of_number : ℕ → Option A) (h : CodePointTrieHeader) (index : List ℕ) (values : List A) where
  module _ (c : IsCoherent of_number h (contents_of index values)) where
    HasHighValue-from_coherent : HasHighValue h (contents_of index values)
    HasHighValue-from_coherent lt =
        elim (none_or_some (high_value values)) [
          | inl none ↦ absurd (not_there (high_value values) none (c.high h.high_start (omega arith) lt).1)
          | inr v ↦ and_some (high_value values) (AreHighBlocks h (contents_of index values)) v.0 v.1 (λ b from fast.
              let most = fast_limit_most h.trie_type in
              elim (none_or_some (slice_get index b)) [
                | inl none ↦
                    let is = c.high (b * 64) from (omega (arith, most, fast)) in
                    absurd (not_there (high_value values) (sym is.0 ∙ answer-fast_missing h index values b fast none) is.1)
                | inr o ↦ and_some (slice_get index b) (λ offset. AreAll values 64 offset v.0) o.0 o.1 (λ i in_block.
                    sym (answer-fast h index values b o.0 i fast o.1 in_block)
                    ∙ (c.high (b * 64 + i) (omega (arith, from)) (omega (arith, most, fast, in_block))).0 ∙ v.1)
              ])
        ]

    AreFastBlocks-from_coherent : AreFastBlocks of_number h (contents_of index values)
    AreFastBlocks-from_coherent b fast below =
        let aligned = c.aligned in
        elim (none_or_some (slice_get index b)) [
          | inl none ↦ absurd (not_there (answer h (contents_of index values) (b * 64)) (answer-fast_missing h index values b fast none)
              (c.inside (b * 64) below))
          | inr o ↦
              let last =
              within values (o.0 + 63) (rw (answer-fast h index values b o.0 63 fast o.1 (omega arith)) at
              (c.inside (b * 64 + 63) (omega (arith, below, aligned)))) in
              let fits : o.0 + 64 ≤ length values = omega (arith, last) in
              and_some (slice_get index b) (IsBlock of_number h values 64) o.0 o.1 (
                fits,
                λ null.
                    IsNullBlock-from_cells of_number h values 64 o.0 (omega arith) fits (λ i lt.
                    let here : b * 64 / 64 ≡ b = omega arith in
                    let named : fast_offset index (b * 64) ≡ Some h.data_null_offset = rw here (o.1 ∙ ap (λ n. Some n) null) in
                    sym (answer-fast h index values b o.0 i fast o.1 lt) ∙ c.null_64 b fast below named i lt),
              )
        ]

    AreSmallBlocks-from_coherent : AreSmallBlocks of_number h (contents_of index values)
    AreSmallBlocks-from_coherent b from below =
        elim (none_or_some (index2_cell h.trie_type index (b * 512))) [
          | inl none ↦
              absurd (not_there (answer h (contents_of index values) (b * 512))
              (answer-cell_missing h index values c.aligned c.within b from below none)
              (c.inside (b * 512) below))
          | inr two ↦ and_some (index2_cell h.trie_type index (b * 512))
              (IsCell of_number h (contents_of index values)) two.0 two.1 (blocks two.0 two.1, null_blocks two.0 two.1)
        ]
      where
        aligned : h.high_start % 512 ≡ 0
        aligned = c.aligned

        small : (cell : ℕ) → index2_cell h.trie_type index (b * 512) ≡ Some cell → (p offset i : ℕ) → p < 32
            → offset_in_block index cell p ≡ Some offset → i < 16
            → answer h (contents_of index values) (b * 512 + (p * 16 + i)) ≡ slice_get values (offset + i)
        small cell two p offset i in_cell three lt =
            answer-small h index values c.aligned c.within b from below cell two p in_cell offset i three lt

        fits : (cell : ℕ) → index2_cell h.trie_type index (b * 512) ≡ Some cell → (p offset : ℕ) → p < 32
            → offset_in_block index cell p ≡ Some offset → offset + 16 ≤ length values
        fits cell two p offset in_cell three =
            let last =
            within values (offset + 15) (rw (small cell two p offset 15 in_cell three (omega arith)) at
            (c.inside (b * 512 + (p * 16 + 15)) (omega (arith, below, aligned, in_cell)))) in
            omega (arith, last)

        offset_there : (cell : ℕ) → index2_cell h.trie_type index (b * 512) ≡ Some cell → (p : ℕ) → p < 32
            → (offset : ℕ) × (offset_in_block index cell p ≡ Some offset)
        offset_there cell two p in_cell = elim (none_or_some (offset_in_block index cell p)) [
          | inl none ↦
              absurd (not_there (answer h (contents_of index values) (b * 512 + (p * 16 + 0)))
              (answer-offset_missing h index values c.aligned c.within b from below cell two p in_cell none)
              (c.inside (b * 512 + (p * 16 + 0)) (omega (arith, below, aligned, in_cell))))
          | inr three ↦ three
        ]

        blocks : (cell : ℕ) → index2_cell h.trie_type index (b * 512) ≡ Some cell → NamesOffsets index cell (IsBlock of_number h values 16)
        blocks cell two p in_cell =
            let three = offset_there cell two p in_cell in
            let most = fast_limit_most h.trie_type in
            let whole = fits cell two p three.0 in_cell three.1 in
            and_some (offset_in_block index cell p) (IsBlock of_number h values 16) three.0 three.1 (
              whole,
              λ null.
                  IsNullBlock-from_cells of_number h values 16 three.0 (omega arith) whole (λ i lt.
                  let here : (b * 32 + p) * 16 ≡ b * 512 + (p * 16 + 0) = omega arith in
                  let there_is : (b * 32 + p) * 16 + i ≡ b * 512 + (p * 16 + i) = omega arith in
                  let named : small_offset h.trie_type index ((b * 32 + p) * 16) ≡ Some h.data_null_offset =
                  rw here (offset-at h index values c.aligned c.within b from below cell two p in_cell 0 (omega arith) ∙ three.1
                  ∙ ap (λ n. Some n) null) in
                  sym (small cell two p three.0 i in_cell three.1 lt)
                  ∙ (ap (λ n. answer h (contents_of index values) n) (sym there_is)
                  ∙ c.null_16 (b * 32 + p) (omega (arith, from)) (omega (arith, below, aligned, in_cell)) named i lt)),
            )

        null_blocks : (cell : ℕ) → index2_cell h.trie_type index (b * 512) ≡ Some cell → cell ≡ h.index3_null_offset
            → NamesOffsets index cell (IsNullBlock of_number h values 16)
        null_blocks cell two null p in_cell =
            let three = offset_there cell two p in_cell in
            and_some (offset_in_block index cell p) (IsNullBlock of_number h values 16) three.0 three.1
            (IsNullBlock-from_cells of_number h values 16 three.0 (omega arith) (fits cell two p three.0 in_cell three.1) (λ i lt.
            sym (small cell two p three.0 i in_cell three.1 lt)
            ∙ c.null_512 b from below (two ∙ ap (λ n. Some n) null) (p * 16 + i) (omega (arith, in_cell, lt))))

  module _ (aligned : h.high_start % 512 ≡ 0) (most : h.high_start ≤ 0x110000) where
    -- Below the fast limit and the high start: the block, and the look-up result in it.
    fast_block : AreFastBlocks of_number h (contents_of index values) → (u : ℕ) → u < fast_limit h.trie_type → u < h.high_start
        → (offset : ℕ) × (slice_get index (u / 64) ≡ Some offset) × IsBlock of_number h values 64 offset
        × (answer h (contents_of index values) u ≡ slice_get values (offset + u % 64))
    fast_block fast u l k =
        let o = some_and (slice_get index (u / 64)) (IsBlock of_number h values 64) (fast (u / 64) (omega (arith, l)) (omega (arith, k))) in
        let m = fast_limit_most h.trie_type in
        (o.0, o.1, o.2, fast_answer h index values u o.0 (omega (arith, l, m)) l o.1)

    small_block : AreSmallBlocks of_number h (contents_of index values) → (u : ℕ) → fast_limit h.trie_type ≤ u → u < h.high_start
        → (cell : ℕ) × (offset : ℕ) × (index2_cell h.trie_type index (u / 512 * 512) ≡ Some cell)
        × (small_offset h.trie_type index u ≡ Some offset) × IsBlock of_number h values 16 offset
        × (cell ≡ h.index3_null_offset → IsNullBlock of_number h values 16 offset)
        × (answer h (contents_of index values) u ≡ slice_get values (offset + u % 16))
    small_block small u l k =
        let m = fast_limit_most h.trie_type in
        let two = some_and (index2_cell h.trie_type index (u / 512 * 512)) (IsCell of_number h (contents_of index values))
        (small (u / 512) (omega (arith, l, m)) (omega (arith, k))) in
        let three = some_and (offset_in_block index two.0 (u % 512 / 16)) (IsBlock of_number h values 16)
        (two.2.0 (u % 512 / 16) (omega arith)) in
        let whole : u / 512 * 512 + u % 512 ≡ u = omega arith in
        let off : small_offset h.trie_type index u ≡ Some three.0 = ap (λ n. small_offset h.trie_type index n) (sym whole)
        ∙ (small_offset_at h.trie_type index (u / 512 * 512) two.0 (u % 512) (omega arith) (omega arith) two.1 ∙ three.1) in (
          two.0,
          three.0,
          two.1,
          off,
          three.2,
          λ null.
              null_of two.0 three.0 (u % 512 / 16) three.1 (two.2.1 null (u % 512 / 16) (omega arith)),
          small_answer h index values u three.0 (omega (arith, k, most)) l k off,
        )
      where
        null_of : (cell offset p : ℕ) → offset_in_block index cell p ≡ Some offset
            → IsSomeAnd (offset_in_block index cell p) (IsNullBlock of_number h values 16) → IsNullBlock of_number h values 16 offset
        null_of cell offset p is e = rw is at e

    IsCoherent-from_blocks : HasHighValue h (contents_of index values) → AreFastBlocks of_number h (contents_of index values)
        → AreSmallBlocks of_number h (contents_of index values)
        → IsCoherent of_number h (contents_of index values)
    IsCoherent-from_blocks high fast small = record {
      aligned = aligned;
      within = most;
      high = λ u from lt.
          let v = some_and (high_value values) (AreHighBlocks h (contents_of index values)) (high (omega (arith, from, lt))) in
          elim (cases_lt u (fast_limit h.trie_type)) [
            | inl p ↦
                let o = some_and (slice_get index (u / 64)) (λ offset. AreAll values 64 offset v.0)
                (v.2 (u / 64) (omega (arith, from, aligned)) (omega (arith, p))) in
                (fast_answer h index values u o.0 lt p o.1 ∙ (o.2 (u % 64) (omega arith) ∙ sym v.1), there (high_value values) v.0 v.1)
            | inr p ↦ (answer-high h index values u lt p from, there (high_value values) v.0 v.1)
          ];
      inside = λ u below. elim (cases_lt u (fast_limit h.trie_type)) [
        | inl p ↦ let o = fast_block fast u p below in rw o.3 (cell-there of_number h values 64 o.0 (u % 64) (omega arith) o.2)
        | inr p ↦ let o = small_block small u p below in rw o.6 (cell-there of_number h values 16 o.1 (u % 16) (omega arith) o.4)
      ];
      null_64 = λ b l k named i lt.
          let o = some_and (slice_get index b) (IsBlock of_number h values 64) (fast b l k) in
          let here : b * 64 / 64 ≡ b = omega arith in
          let named_block = rw here at named in
          let null : o.0 ≡ h.data_null_offset = cc in
          answer-fast h index values b o.0 i l o.1 lt ∙ cell-null of_number h values 64 o.0 i lt (o.2.1 null);
      null_16 = λ b l k named i lt.
          let o = small_block small (b * 16 + i) (omega (arith, l)) (omega (arith, k, aligned, lt)) in
          let same = small_offset_in h.trie_type index b i lt in
          let null : o.1 ≡ h.data_null_offset = let a = o.3 in cc in
          o.6 ∙ cell-null of_number h values 16 o.1 ((b * 16 + i) % 16) (omega arith) (o.4.1 null);
      null_512 = λ b l k named i lt.
          let o = small_block small (b * 512 + i) (omega (arith, l)) (omega (arith, k, aligned, lt)) in
          let here : (b * 512 + i) / 512 * 512 ≡ b * 512 = omega (arith, lt) in
          let two = rw here at o.2 in
          let null : o.0 ≡ h.index3_null_offset = cc in
          o.6 ∙ cell-null of_number h values 16 o.1 ((b * 512 + i) % 16) (omega arith) (o.5 null);
    }

    pub coherent_by_blocks : (AreCoherentBlocks of_number h (contents_of index values) → IsCoherent of_number h (contents_of index values))
        × (IsCoherent of_number h (contents_of index values) → AreCoherentBlocks of_number h (contents_of index values))
    coherent_by_blocks = (
      λ e. IsCoherent-from_blocks e.high e.fast e.small,
      λ c. record { high = HasHighValue-from_coherent c; fast = AreFastBlocks-from_coherent c; small = AreSmallBlocks-from_coherent c },
    )
