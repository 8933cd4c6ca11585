-- Blocks of data that have one number throughout, and the search for the null block.
use Rattle.std.specs.Prelude.{◌≡◌, ◌≢◌, ℕ, ◌+◌, ◌<◌, ◌≤◌, ◌⊎◌, List, length, slice_index}
use Rattle.icu_trie_core.specs.Blocks.{window}
use Rattle.icu_trie_builder.specs.declared.data.null_block.FilledBlock.{FilledBlock}
use Rattle.icu_trie_builder.specs.declared.data.null_block.FilledBlock.TheVariants.{Fast, Small}

-- The k cells from each of these offsets on exist.
abbrev pub LieIn : ℕ → List ℕ → List ℕ → Type 0
LieIn k offsets cells = (j : ℕ) → j < length offsets → slice_index offsets j + k ≤ length cells

-- The k cells from position `at` on all equal value.
abbrev pub IsFilled : ℕ → ℕ → ℕ → List ℕ → Type 0
IsFilled value k at cells = (i : ℕ) → i < k → slice_index cells (at + i) ≡ value

-- `at` is none of the offsets.
abbrev pub IsApart : ℕ → List ℕ → Type 0
IsApart at offsets = (i : ℕ) → i < length offsets → slice_index offsets i ≢ at

-- A valid null block: every block of 64 (offsets `fast`) and of 16 (offsets `small`) at this offset
-- has this number throughout, and there is at least one such block.
pub record IsNull (fast small cells : List ℕ) (offset value : ℕ) : Type 0 where
  pub on_fast : (j : ℕ) → j < length fast → slice_index fast j ≡ offset
      → IsFilled value 64 offset cells
  pub on_small : (j : ℕ) → j < length small → slice_index small j ≡ offset
      → IsFilled value 16 offset cells
  pub used : ((j : ℕ) × (j < length fast) × (slice_index fast j ≡ offset))
      ⊎ ((j : ℕ) × (j < length small) × (slice_index small j ≡ offset))

-- A block that has one number throughout, identified by its index among the blocks of 64 or of 16.
abbrev pub IsOneOf : List ℕ → List ℕ → List ℕ → FilledBlock → Type 0
IsOneOf fast small cells (Fast n) =
    let at = slice_index fast n in (n < length fast) × IsFilled (slice_index cells at) 64 at cells
IsOneOf fast small cells (Small n) =
    let at = slice_index small n in (n < length small) × IsFilled (slice_index cells at) 16 at cells

-- None of these blocks has one number throughout.
pub record HasNoNull (fast small cells : List ℕ) : Type 0 where
  pub on_fast : (j value : ℕ) → j < length fast → IsFilled value 64 (slice_index fast j) cells → ⊥
  pub on_small : (j value : ℕ) → j < length small
      → IsFilled value 16 (slice_index small j) cells → ⊥

-- Blocks of 16 were moved from the offsets `old` in `before` to the offsets `new` in `after`. Equal
-- offsets were moved to equal ones.
pub record IsMoved (before after old new : List ℕ) : Type 0 where
  pub count : length new ≡ length old
  pub inside : LieIn 16 new after
  pub copies : (j : ℕ) → j < length new
      → window 16 (slice_index new j) after ≡ window 16 (slice_index old j) before
  pub same : (i j : ℕ) → i < length old → j < length old → slice_index old i ≡ slice_index old j
      → slice_index new i ≡ slice_index new j

-- x is the first of these positions whose cell is v.
abbrev pub IsFirstOf : ℕ → List ℕ → List ℕ → ℕ → Type 0
IsFirstOf v cells places x = (k : ℕ) × (k < length places) × (slice_index places k ≡ x)
    × (slice_index cells x ≡ v)
    × ((m : ℕ) → m < k → slice_index cells (slice_index places m) ≢ v)

-- x is a position for the block of 16 at `at`: if the block has one number throughout, the first of
-- these positions that has this number, and otherwise, or if there is none, `at` itself.
unfoldable pub IsSharedPlace : List ℕ → List ℕ → ℕ → ℕ → Type 0
IsSharedPlace cells places at x =
    (IsFilled (slice_index cells at) 16 at cells × IsFirstOf (slice_index cells at) cells places x)
    ⊎ ((x ≡ at) × (IsFilled (slice_index cells at) 16 at cells → (m : ℕ) → m < length places
    → slice_index cells (slice_index places m) ≢ slice_index cells at))

-- At each of these positions there are 64 equal cells.
pub record AreFilledPlaces (cells places : List ℕ) : Type 0 where
  pub inside : LieIn 64 places cells
  pub filled : (m : ℕ) → m < length places
      → IsFilled (slice_index cells (slice_index places m)) 64 (slice_index places m) cells
