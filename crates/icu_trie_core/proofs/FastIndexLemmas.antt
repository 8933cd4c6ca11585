-- What a whole fast index implies about the blocks it names.
use Rattle.std.proofs.Common.{◌≡◌, inl, inr, ℕ, ◌+◌, ◌/◌, ◌<◌, ◌≤◌, List, length, slice_get, Some, false, nat_lt, arith}
use Rattle.std.proofs.lemmas.Bool.{ltb-false}
use Rattle.std.proofs.lemmas.Option.{slice_get_cases}
use Rattle.icu_trie_core.specs.Format.{fast_limit}
use Rattle.icu_trie_core.specs.FastIndex.{fast_index_len, passes_data}
use Rattle.icu_trie_core.specs.declared.header.TrieType.{TrieType}
use Rattle.icu_trie_core.specs.declared.header.TrieType.TheVariants.{Fast, Small}
use Rattle.icu_trie_core.proofs.FrontLemmas.{not_found}

-- A code point below the fast limit has its cell in the fast index.
pub in_fast_index : (kind : TrieType) (c : ℕ) → c < fast_limit kind → c / 64 < fast_index_len kind
in_fast_index Fast c below = omega arith
in_fast_index Small c below = omega arith

-- A block of 64 that the fast index names is inside the data.
pub block_inside : (kind : TrieType) (index : List ℕ) (len i offset : ℕ) → passes_data kind index len ≡ false
    → slice_get index i ≡ Some offset
    → i < fast_index_len kind → offset + 64 ≤ len
block_inside kind index len i offset whole at within =
    ltb-false len (offset + 64) (not_found (λ o. nat_lt len (o + 64)) index i (fast_index_len kind) offset whole at within)

-- So the data have at least 64 cells.
pub data_at_least : (kind : TrieType) (index : List ℕ) (len : ℕ) → passes_data kind index len ≡ false → fast_index_len kind ≤ length index
    → 64 ≤ len
data_at_least kind index len whole fits = elim (slice_get_cases index 0).1 [
  | inl p ↦ let inside = block_inside kind index len 0 p.0 whole p.2 (some kind) in omega (arith, inside)
  | inr p ↦ let past = p.0 in let lt = some kind in absurd (omega (arith, past, lt, fits))
]
  where
    some : (t : TrieType) → 0 < fast_index_len t
    some Fast = omega arith
    some Small = omega arith
