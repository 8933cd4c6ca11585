-- A trie whose values are still numbers.
use Rattle.std.specs.Prelude.{◌≡◌, ℕ, ◌<◌, ◌≤◌, false, List, Some, length}
use Rattle.icu_zerovec.specs.CodePoints.{code_point_limit}
use Rattle.icu_trie_core.specs.Contents.{contents_of}
use Rattle.icu_trie_core.specs.declared.header.CodePointTrieHeader.{CodePointTrieHeader}
use Rattle.icu_trie_core.specs.Format.{answer}
use Rattle.icu_trie_core.specs.FastIndex.{fast_index_len, passes_data}
use Rattle.icu_trie.specs.Parts.{last_cell}
use Rattle.icu_trie_builder.specs.Built.{IsWellBuilt}

-- Header, index and values form a trie of the numbers f with this error value.
pub record IsNumberTrie (f : ℕ → ℕ) (error : ℕ) (h : CodePointTrieHeader) (index values : List ℕ)
    : Type 0 where
  -- The look-up of each code point yields its number.
  pub answers : (c : ℕ) → c < code_point_limit → answer h (contents_of index values) c ≡ Some (f c)
  pub error_value : last_cell values ≡ Some error
  -- The fast index has all its cells, and its blocks are inside the data.
  pub fast_index : fast_index_len h.trie_type ≤ length index
  pub fast_data : passes_data h.trie_type index (length values) ≡ false
  -- Here each number is its own value.
  pub well_built : IsWellBuilt Some f (record { header = h; index = index; values = values })
