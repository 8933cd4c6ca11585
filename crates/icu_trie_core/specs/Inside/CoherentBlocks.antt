-- Coherence, block by block. For most blocks only the offset matters: the block has to be inside
-- the data. The cells matter only in blocks that the header names as null.
use Rattle.std.specs.Prelude.{◌≡◌, ℕ, ◌+◌, ◌*◌, ◌<◌, ◌≤◌, List, length, slice_get, Option, Some, IsSomeAnd}
use Rattle.icu_trie_core.specs.declared.header.CodePointTrieHeader.{CodePointTrieHeader}
use Rattle.icu_trie_core.specs.Contents.{Contents}
use Rattle.icu_trie_core.specs.Format.{fast_limit, index2_cell, offset_in_block, high_value}

-- The k data cells from an offset on all equal a value.
abbrev pub AreAll : {A : Type 0} → List A → ℕ → ℕ → A → Type 0
AreAll values k offset value = (i : ℕ) → i < k → slice_get values (offset + i) ≡ Some value

-- All 32 data offsets that an index-2 cell names exist, and each satisfies P.
abbrev pub NamesOffsets : List ℕ → ℕ → (ℕ → Type 0) → Type 0
NamesOffsets index cell P = (p : ℕ) → p < 32 → IsSomeAnd (offset_in_block index cell p) P

module _ {A : Type 0} (of_number : ℕ → Option A) (h : CodePointTrieHeader) (values : List A) where
  -- The null value exists, and the k data cells from an offset on all equal it.
  abbrev pub IsNullBlock : ℕ → ℕ → Type 0
  IsNullBlock k offset = IsSomeAnd (of_number h.null_value) (AreAll values k offset)

  -- A data block of k cells is inside the data, and it is null if the header names it as null.
  abbrev pub IsBlock : ℕ → ℕ → Type 0
  IsBlock k offset =
      (offset + k ≤ length values) × (offset ≡ h.data_null_offset → IsNullBlock k offset)

module _ {A : Type 0} (of_number : ℕ → Option A) (h : CodePointTrieHeader)
    (cells : Contents A) where
  -- The 32 blocks of 16 that an index-2 cell names satisfy `IsBlock`, and they are null if the
  -- header names the cell as null.
  abbrev pub IsCell : ℕ → Type 0
  IsCell cell = NamesOffsets cells.index cell (IsBlock of_number h cells.values 16)
      × (cell ≡ h.index3_null_offset
      → NamesOffsets cells.index cell (IsNullBlock of_number h cells.values 16))

  -- Each block of 64 below the fast limit and below the high start satisfies `IsBlock`.
  abbrev pub AreFastBlocks : Type 0
  AreFastBlocks = (b : ℕ) → b * 64 < fast_limit h.trie_type → b * 64 < h.high_start
      → IsSomeAnd (slice_get cells.index b) (IsBlock of_number h cells.values 64)

  -- Each block of 512 from the fast limit up to the high start satisfies `IsCell`.
  abbrev pub AreSmallBlocks : Type 0
  AreSmallBlocks = (b : ℕ) → fast_limit h.trie_type ≤ b * 512 → b * 512 < h.high_start
      → IsSomeAnd (index2_cell h.trie_type cells.index (b * 512)) IsCell

module _ {A : Type 0} (h : CodePointTrieHeader) (cells : Contents A) where
  -- Each block of 64 from the high start up to the fast limit has this value throughout.
  abbrev pub AreHighBlocks : A → Type 0
  AreHighBlocks high = (b : ℕ) → h.high_start ≤ b * 64 → b * 64 < fast_limit h.trie_type
      → IsSomeAnd (slice_get cells.index b) (λ offset. AreAll cells.values 64 offset high)

  -- If there are code points from the high start on, the high value exists, and the fast index
  -- agrees with it.
  abbrev pub HasHighValue : Type 0
  HasHighValue = h.high_start < 0x110000 → IsSomeAnd (high_value cells.values) AreHighBlocks

-- The blocks of a trie satisfy coherence.
pub record AreCoherentBlocks {A : Type 0} (of_number : ℕ → Option A) (h : CodePointTrieHeader)
    (cells : Contents A) : Type 0 where
  pub high : HasHighValue h cells
  pub fast : AreFastBlocks of_number h cells
  pub small : AreSmallBlocks of_number h cells
