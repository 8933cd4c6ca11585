-- A table of the windows of some cells. It stores each distinct window once, with the first
-- position at which it occurs.
use Rattle.std.specs.Prelude.{◌≡◌, ◌≢◌, ℕ, ◌+◌, ◌-◌, ◌^◌, ◌<◌, ◌≤◌, List, length, slice_index, slice_index_or}
use Rattle.icu_trie_core.specs.Blocks.{window}
use Rattle.icu_trie_builder.specs.Inside.Compaction.Hashes.{bucket, leaving_factor}
use Rattle.icu_trie_builder.specs.declared.compaction.window_table.WindowTable.{WindowTable}

-- `at` is the first position at which the k cells x occur.
pub record IsLeast (k at : ℕ) (cells x : List ℕ) : Type 0 where
  pub inside : at + k ≤ length cells
  pub here : window k at cells ≡ x
  pub least : (q : ℕ) → q < at → window k q cells ≢ x

-- The lists b 0, .., b (n - 1) are in buckets, where h gives the bucket of a list. Each bucket is a
-- chain from its newest list to its oldest. A link is the number of a list plus one, and 0 ends a
-- chain.
pub record IsChained (h : List ℕ → ℕ) (b : ℕ → List ℕ) (n : ℕ) (heads next : List ℕ) : Type 0 where
  pub links : length next ≡ n
  -- No head is newer than the newest list.
  pub head_bound : (i : ℕ) → slice_index heads i ≤ n
  -- The head of a list's bucket is that list or a newer one.
  pub head_all : (q : ℕ) → q < n → q < slice_index heads (h (b q))
  -- The head of a bucket is a list of that bucket.
  pub head_own : (i p : ℕ) → i < length heads → slice_index heads i ≡ p + 1 → h (b p) ≡ i
  -- Links lead to older lists of the same bucket and skip none of them.
  pub next_bound : (p : ℕ) → p < n → slice_index next p ≤ p
  pub next_all : (p q : ℕ) → q < p → p < n → h (b q) ≡ h (b p) → q < slice_index next p
  pub next_own : (p q : ℕ) → p < n → slice_index next p ≡ q + 1 → h (b q) ≡ h (b p)

-- Window number e of k cells. `starts` has the positions of the windows.
abbrev pub entry : ℕ → List ℕ → List ℕ → ℕ → List ℕ
entry k starts cells e = window k (slice_index starts e) cells

-- The number of distinct windows in a table.
abbrev pub entry_count : WindowTable → ℕ
entry_count t = length t.starts.items

-- A valid table: it has the windows that start before position t.entered, each distinct one once.
pub record IsTable (cells : List ℕ) (t : WindowTable) : Type 0 where
  pub some_cells : 0 < t.size
  pub factor : t.leaving ≡ leaving_factor t.size
  pub some_buckets : 0 < length t.heads.items
  pub few_buckets : length t.heads.items ≤ 2 ^ 24
  pub within : t.entered ≤ length cells + 1 - t.size
  pub few : entry_count t ≤ t.entered
  pub chained : IsChained (bucket (length t.heads.items)) (entry t.size t.starts.items cells)
      (entry_count t) t.heads.items t.next.items
  -- Each window has the first position at which it occurs.
  pub below : (e : ℕ) → e < entry_count t → slice_index t.starts.items e < t.entered
  pub least : (e : ℕ) → e < entry_count t → IsLeast t.size (slice_index t.starts.items e) cells
      (entry t.size t.starts.items cells e)
  -- No window is missing.
  pub all : (q : ℕ) → q < t.entered → (e : ℕ) × (e < entry_count t)
      × (entry t.size t.starts.items cells e ≡ window t.size q cells)

-- The table has all windows of the cells.
abbrev pub HasAll : List ℕ → WindowTable → Type 0
HasAll cells t = t.entered ≡ length cells + 1 - t.size

-- Valid tables of the windows of these cells.
abbrev pub AreTables : List ℕ → List WindowTable → Type 0
AreTables cells ts = (i : ℕ) (d : WindowTable) → i < length ts
    → IsTable cells (slice_index_or ts i d)

-- The cells of a store, and its tables of their windows.
pub record IsStore (cells : List ℕ) (ts : List WindowTable) : Type 0 where
  pub few : length cells < 2 ^ 30
  pub tables : AreTables cells ts
