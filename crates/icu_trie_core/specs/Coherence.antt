-- Coherent tries, whose header a walk may trust, and shared tries, whose walks are short.
use Rattle.std.specs.Prelude.{◌≡◌, ℕ, ◌+◌, ◌*◌, ◌%◌, ◌<◌, ◌≤◌, Option, Some, IsSome}
use Rattle.icu_trie_core.specs.declared.header.CodePointTrieHeader.{CodePointTrieHeader}
use Rattle.icu_trie_core.specs.Contents.{Contents}
use Rattle.icu_trie_core.specs.Format.{answer, fast_limit, fast_offset, small_offset, index2_cell, high_value}

module _ {A : Type 0} (of_number : ℕ → Option A) (h : CodePointTrieHeader)
    (cells : Contents A) where
  -- Every code point in block number b of k code points has the null value.
  abbrev pub AnswersNull : ℕ → ℕ → Type 0
  AnswersNull k b = (i : ℕ) → i < k → answer h cells (b * k + i) ≡ of_number h.null_value

  -- Every code point from the high start on has the high value.
  abbrev pub HighAnswers : Type 0
  HighAnswers = (c : ℕ) → h.high_start ≤ c → c < 0x110000
      → (answer h cells c ≡ high_value cells.values) × IsSome (high_value cells.values)

  -- No look-up of a code point below the high start reads outside the index or the data.
  abbrev pub InsideAnswers : Type 0
  InsideAnswers = (c : ℕ) → c < h.high_start → IsSome (answer h cells c)

  -- Below the fast limit, each block of 64 whose data offset is the null data offset has the null
  -- value throughout.
  abbrev pub Null64 : Type 0
  Null64 = (b : ℕ) → b * 64 < fast_limit h.trie_type → b * 64 < h.high_start
      → fast_offset cells.index (b * 64) ≡ Some h.data_null_offset → AnswersNull 64 b

  -- From the fast limit on, each block of 16 whose data offset is the null data offset has the null
  -- value throughout.
  abbrev pub Null16 : Type 0
  Null16 = (b : ℕ) → fast_limit h.trie_type ≤ b * 16 → b * 16 < h.high_start
      → small_offset h.trie_type cells.index (b * 16) ≡ Some h.data_null_offset → AnswersNull 16 b

  -- From the fast limit on, each block of 512 whose index-2 cell equals the null index-3 offset,
  -- bit 15 included, has the null value throughout.
  abbrev pub Null512 : Type 0
  Null512 = (b : ℕ) → fast_limit h.trie_type ≤ b * 512 → b * 512 < h.high_start
      → index2_cell h.trie_type cells.index (b * 512) ≡ Some h.index3_null_offset
      → AnswersNull 512 b

  -- A coherent trie: what its header says about the high value and about null blocks is true.
  pub record IsCoherent : Type 0 where
    pub aligned : h.high_start % 512 ≡ 0
    pub within : h.high_start ≤ 0x110000
    pub high : HighAnswers
    pub inside : InsideAnswers
    pub null_64 : Null64
    pub null_16 : Null16
    pub null_512 : Null512

module _ {A : Type 0} (h : CodePointTrieHeader) (cells : Contents A) where
  -- Blocks number b and d of k code points have the same values.
  abbrev pub SameAnswers : ℕ → ℕ → ℕ → Type 0
  SameAnswers k b d = (i : ℕ) → i < k
      → answer h cells (b * k + i) ≡ answer h cells (d * k + i)

  -- Block number b of k code points starts in low..high and below the high start.
  abbrev pub StandsIn : ℕ → ℕ → ℕ → ℕ → Type 0
  StandsIn k low high b = (low ≤ b * k) × (b * k < high) × (b * k < h.high_start)

  -- A shared trie: below the high start, blocks with equal values have equal cells. Blocks below
  -- U+0080 are exempt.
  pub record IsShared : Type 0 where
    pub fast : (b d : ℕ) → StandsIn 64 0x80 (fast_limit h.trie_type) b
        → StandsIn 64 0x80 (fast_limit h.trie_type) d
        → SameAnswers 64 b d → fast_offset cells.index (b * 64) ≡ fast_offset cells.index (d * 64)
    pub small : (b d : ℕ) → StandsIn 16 (fast_limit h.trie_type) 0x110000 b
        → StandsIn 16 (fast_limit h.trie_type) 0x110000 d
        → SameAnswers 16 b d
        → small_offset h.trie_type cells.index (b * 16) ≡ small_offset h.trie_type cells.index
        (d * 16)
    pub index2 : (b d : ℕ) → StandsIn 512 (fast_limit h.trie_type) 0x110000 b
        → StandsIn 512 (fast_limit h.trie_type) 0x110000 d
        → SameAnswers 512 b d
        → index2_cell h.trie_type cells.index (b * 512) ≡ index2_cell h.trie_type cells.index
        (d * 512)
