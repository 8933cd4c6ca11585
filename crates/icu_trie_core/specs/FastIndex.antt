-- The fast index of a trie, and whether its blocks are inside the data.
use Rattle.std.specs.Prelude.{◌≡◌, ℕ, ◌+◌, ◌/◌, ◌≤◌, nat_lt, Bool, false, List, length, take}
use Rattle.std.specs.List.{list_any}
use Rattle.icu_trie_core.specs.declared.header.TrieType.{TrieType}
use Rattle.icu_trie_core.specs.Contents.{Contents}
use Rattle.icu_trie_core.specs.Format.{fast_limit}

-- The number of cells in the fast index: 1,024 or 64, one for each block of 64 below the fast
-- limit.
abbrev pub fast_index_len : TrieType → ℕ
fast_index_len trie_type = fast_limit trie_type / 64

-- True if the fast index names a block of 64 that ends outside data of length len.
abbrev pub passes_data : TrieType → List ℕ → ℕ → Bool
passes_data trie_type index len =
    list_any (λ offset. nat_lt len (offset + 64)) (take (fast_index_len trie_type) index)

-- A whole fast index: the index has all its cells, and every block of 64 that they name is inside
-- the data.
abbrev pub IsWhole : {A : Type 0} → TrieType → Contents A → Type 0
IsWhole trie_type cells = (fast_index_len trie_type ≤ length cells.index)
    × (passes_data trie_type cells.index (length cells.values) ≡ false)
