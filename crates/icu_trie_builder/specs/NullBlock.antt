-- The null data block, and the null index-3 block.
use Rattle.std.specs.Prelude.{◌≡◌, ℕ, ◌+◌, ◌*◌, ◌<◌, ◌≤◌, ◌⊎◌, List, Some}
use Rattle.icu_trie_core.specs.declared.header.CodePointTrieHeader.{CodePointTrieHeader}
use Rattle.icu_trie_core.specs.declared.header.TrieType.{TrieType}
use Rattle.icu_trie_core.specs.Format.{fast_limit, fast_offset, small_offset, index2_cell}

-- Aligned block number b of k code points has one number throughout.
abbrev pub HoldsOne : (ℕ → ℕ) → ℕ → ℕ → Type 0
HoldsOne f k b = (i : ℕ) → i < k → f (b * k + i) ≡ f (b * k)

-- Some aligned block has one number throughout. Either it is a block of 64 below the fast limit,
-- and its block number satisfies P. Or it is a block of 16 from there up to the high start, and its
-- block number satisfies Q.
abbrev pub SomeHoldsOne : TrieType → ℕ → (ℕ → ℕ) → (ℕ → Type 0) → (ℕ → Type 0) → Type 0
SomeHoldsOne t high f P Q = ((b : ℕ) × (b * 64 < fast_limit t) × HoldsOne f 64 b × P b)
    ⊎ ((b : ℕ) × (fast_limit t ≤ b * 16) × (b * 16 < high) × HoldsOne f 16 b × Q b)

-- If some aligned block has one number throughout, the null data offset is the offset of such a
-- block.
unfoldable pub NamesNull : CodePointTrieHeader → List ℕ → (ℕ → ℕ) → Type 0
NamesNull h index f = SomeHoldsOne h.trie_type h.high_start f (λ _. Unit {0}) (λ _. Unit {0})
    → SomeHoldsOne h.trie_type h.high_start f
    (λ b. fast_offset index (b * 64) ≡ Some h.data_null_offset)
    (λ b. small_offset h.trie_type index (b * 16) ≡ Some h.data_null_offset)

-- If no aligned block has one number throughout, the null data offset is 0xfffff. No block has this
-- offset.
unfoldable pub NamesNoNull : CodePointTrieHeader → (ℕ → ℕ) → Type 0
NamesNoNull h f = (SomeHoldsOne h.trie_type h.high_start f (λ _. Unit {0}) (λ _. Unit {0}) → ⊥)
    → h.data_null_offset ≡ 0xfffff

-- If no aligned block has one number throughout, the null value is the default.
unfoldable pub HasDefaultNull : ℕ → CodePointTrieHeader → (ℕ → ℕ) → Type 0
HasDefaultNull default h f =
    (SomeHoldsOne h.trie_type h.high_start f (λ _. Unit {0}) (λ _. Unit {0}) → ⊥)
    → h.null_value ≡ default

-- From the fast limit up to the high start, a block of 512 whose 32 data offsets all are null has
-- the null index-3 offset as its index-2 cell.
unfoldable pub NamesNullIndex : CodePointTrieHeader → List ℕ → Type 0
NamesNullIndex h index = (b : ℕ) → fast_limit h.trie_type ≤ b * 512 → b * 512 < h.high_start
    → ((i : ℕ) → i < 32 → small_offset h.trie_type index (b * 512 + 16 * i)
    ≡ Some h.data_null_offset)
    → index2_cell h.trie_type index (b * 512) ≡ Some h.index3_null_offset
