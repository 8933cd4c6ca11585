-- What a walk knows at each step.
use Rattle.std.specs.Prelude.{◌≡◌, ◌≢◌, ℕ, ◌+◌, ◌*◌, ◌/◌, ◌%◌, ◌<◌, ◌≤◌, min, nat_eq, List, Option, Some, None, slice_get, if◌then◌else◌, IsSomeAnd, MatchOption}
use Rattle.std.specs.Option.{option_and_then}
use Rattle.icu_trie_core.specs.Contents.{Contents}
use Rattle.icu_trie_core.specs.declared.header.CodePointTrieHeader.{CodePointTrieHeader}
use Rattle.icu_trie_core.specs.Format.{fast_limit, offset_in_block}
use Rattle.icu_trie_core.specs.Coherence.{IsCoherent, IsShared}
use Rattle.icu_trie_core.specs.Seen.{seen}
use Rattle.icu_trie_core.specs.declared.header.TrieType.{TrieType}
use Rattle.icu_trie_core.specs.declared.extend.Walk.{Walk}

-- Cell i of the data block at an offset.
abbrev pub block_cells : {A : Type 0} → List A → ℕ → ℕ → Option A
block_cells values offset i = slice_get values (offset + i)

-- What a walk sees at position i of the data block at an offset: the null value if the header names
-- the block as null, otherwise the cell.
abbrev pub block_seen : {A : Type 0} → (ℕ → Option A) → CodePointTrieHeader → List A → ℕ → ℕ
    → Option A
block_seen of_number h values offset i =
    if nat_eq offset h.data_null_offset then of_number h.null_value
    else slice_get values (offset + i)

-- What a walk sees at position i of the 32 blocks of 16 that an index-2 cell names.
abbrev pub blocks_seen : {A : Type 0} → (ℕ → Option A) → CodePointTrieHeader → Contents A → ℕ
    → ℕ → Option A
blocks_seen of_number h cells cell i =
    option_and_then (λ offset. block_seen of_number h cells.values offset (i % 16))
    (offset_in_block cells.index cell (i / 16))

-- What a walk sees at position i of a block of 512 with this index-2 cell.
unfoldable pub cell_seen : {A : Type 0} → (ℕ → Option A) → CodePointTrieHeader → Contents A → ℕ
    → ℕ → Option A
cell_seen of_number h cells cell i =
    if nat_eq cell h.index3_null_offset then of_number h.null_value
    else blocks_seen of_number h cells cell i

-- The end of the blocks of a trie: the high start, or 0x110000 if that is less.
abbrev pub blocks_end : CodePointTrieHeader → ℕ
blocks_end h = min h.high_start 0x110000

-- The end of the blocks of 64: the fast limit, or the end of the blocks if that is less.
abbrev pub fast_end : CodePointTrieHeader → ℕ
fast_end h = min (blocks_end h) (fast_limit h.trie_type)

-- A block of 64 starts at c and, from the fast limit on, a block of 512.
abbrev pub BeginsBlock : TrieType → ℕ → Type 0
BeginsBlock trie_type c = (c % 64 ≡ 0) × (fast_limit trie_type ≤ c → c % 512 ≡ 0)

module _ {A : Type 0} (sees : ℕ → Option A) where
  -- Every position in start..end has the value.
  abbrev pub Holds : ℕ → ℕ → A → Type 0
  Holds start end value = (u : ℕ) → start ≤ u → u < end → sees u ≡ Some value

  -- The run of the value from start on ends at end (exclusive): another value or the limit is
  -- there.
  pub record EndsAt (start limit : ℕ) (value : A) (end : ℕ) : Type 0 where
    pub begun : start ≤ end
    pub within : end ≤ limit
    pub equal : Holds start end value
    pub differs : end < limit → IsSomeAnd (sees end) (λ y. y ≢ value)

  -- The run of the value from start on reaches a position below the limit at which nothing is seen.
  pub record BreaksOff (start limit : ℕ) (value : A) : Type 0 where
    pub place : ℕ
    pub begun : start ≤ place
    pub within : place < limit
    pub equal : Holds start place value
    pub missing : sees place ≡ None

  -- The end of the run from start on, or None if it breaks off.
  abbrev pub Reaches : ℕ → ℕ → A → Option ℕ → Type 0
  Reaches start limit value r =
      MatchOption r (BreaksOff start limit value) (EndsAt start limit value)

-- If a name (an offset or an index-2 cell) is remembered, the first k positions of its block have
-- the value.
abbrev pub IsRemembered : {A : Type 0} → (ℕ → ℕ → Option A) → ℕ → Option ℕ → A → Type 0
IsRemembered sees k remembered value = (name : ℕ) → remembered ≡ Some name
    → Holds (sees name) 0 k value

-- In a block of 512, two blocks of 16 in which a walk sees the same values have the same data
-- offset.
abbrev pub SharesBlocks : {A : Type 0} → (ℕ → Option A) → CodePointTrieHeader → Contents A → ℕ
    → Type 0
SharesBlocks of_number h cells cell = (p q : ℕ) → p < 32 → q < 32
    → ((i : ℕ) → i < 16
    → cell_seen of_number h cells cell (p * 16 + i)
    ≡ cell_seen of_number h cells cell (q * 16 + i))
    → offset_in_block cells.index cell p ≡ offset_in_block cells.index cell q

-- What the steps of a walk return, and how many cells they read.
module _ {A : Type 0} (of_number : ℕ → Option A) (walk : Walk A) (cells : Contents A) where
  -- The end of the run of the walk's value in the code points start..end.
  abbrev pub Extends : ℕ → ℕ → Option ℕ → Type 0
  Extends start end r = Reaches (seen of_number walk.header.now cells) start end walk.value r

  -- The end of that run in the positions start..end of the data block at an offset.
  abbrev pub ExtendsInBlock : ℕ → ℕ → ℕ → Option ℕ → Type 0
  ExtendsInBlock offset start end r =
      Reaches (block_seen of_number walk.header.now cells.values offset) start end walk.value r

  -- The end of that run in the positions start..end of a block of 512 with this index-2 cell.
  abbrev pub ExtendsInCell : ℕ → ℕ → ℕ → Option ℕ → Type 0
  ExtendsInCell cell start end r =
      Reaches (cell_seen of_number walk.header.now cells cell) start end walk.value r

  -- Over a coherent and shared trie, the number of reads rises by at most `most`.
  abbrev pub ReadsAtMost : ℕ → ℕ → ℕ → Type 0
  ReadsAtMost most before after = IsCoherent of_number walk.header.now cells
      → IsShared walk.header.now cells → after ≤ before + most

  -- In a whole block of 512 whose blocks of 16 are shared, the number of reads rises by at most
  -- `most`.
  abbrev pub ReadsInCell : ℕ → ℕ → ℕ → ℕ → ℕ → Type 0
  ReadsInCell cell end most before after =
      SharesBlocks of_number walk.header.now cells cell → end ≡ 512 → after ≤ before + most
