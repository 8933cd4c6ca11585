-- Blocks of cells that are stored among other cells.
use Rattle.std.specs.Prelude.{◌≡◌, ◌≢◌, ℕ, ◌+◌, ◌<◌, ◌≤◌, Bool, true, List, length, max, take, slice_index}
use Rattle.std.specs.List.{AllPass}
use Rattle.icu_trie_core.specs.Blocks.{window}
use Rattle.icu_trie_builder.specs.Inside.Compaction.Windows.{IsLeast}

-- `after` contains the blocks b first, b (first + 1), .. of k cells, each at its offset.
pub record IsCopied (k first : ℕ) (b : ℕ → List ℕ) (after offsets : List ℕ) : Type 0 where
  pub inside : (j : ℕ) → j < length offsets → slice_index offsets j + k ≤ length after
  pub copies : (j : ℕ) → j < length offsets → window k (slice_index offsets j) after ≡ b (first + j)

-- `after` is `before` with cells appended, and contains these blocks.
pub record IsPlaced (k first : ℕ) (b : ℕ → List ℕ) (before after offsets : List ℕ) : Type 0 where
  pub kept : take (length before) after ≡ before
  pub copied : IsCopied k first b after offsets
  -- Equal blocks have the same offset.
  pub shared : (i j : ℕ) → i < length offsets → j < length offsets → b (first + i) ≡ b (first + j)
      → slice_index offsets i ≡ slice_index offsets j
  -- Each new cell is a cell of a block.
  pub drawn : (p : ℕ → Bool) → ((j : ℕ) → j < length offsets → AllPass p (b (first + j)))
      → AllPass p before
      → AllPass p after

-- The test p is true only for blocks of k cells that occur in the cells.
abbrev pub AllStandIn : ℕ → List ℕ → (List ℕ → Bool) → Type 0
AllStandIn k cells p = (x : List ℕ) → p x ≡ true → (q : ℕ) × (window k q cells ≡ x)

-- The block x does not occur in the cells.
abbrev pub OccursNowhere : List ℕ → List ℕ → Type 0
OccursNowhere x cells = (q : ℕ) → window (length x) q cells ≢ x

-- One block x is placed: it was found at position `at`, or appended if that position is at most
-- `limit`.
pub record IsPlacedBlock (limit : ℕ) (x before after : List ℕ) (at : ℕ) : Type 0 where
  -- `at` is the first position at which it occurs.
  pub least : IsLeast (length x) at after x
  pub kept : take (length before) after ≡ before
  -- It is appended only if it did not occur, possibly overlapping the cells before.
  pub grown : length before < length after
      → (length after ≤ length before + length x) × OccursNowhere x before
  pub capped : length after ≤ max (length before) (limit + length x)
  -- Each new cell is a cell of the block.
  pub drawn : (p : ℕ → Bool) → AllPass p x → AllPass p before → AllPass p after
