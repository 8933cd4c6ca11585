-- Bounds on the size of a trie, and the maps that may be too large. Both depend on counts of
-- distinct aligned blocks of the map. f gives the number of each code point.
use Rattle.std.specs.Prelude.{ℕ, ◌+◌, ◌-◌, ◌*◌, ◌/◌, ◌<◌, ◌⊎◌, nat_eq, Bool, List, length, map}
use Rattle.std.specs.List.{range_with_len, list_any}
use Rattle.std.specs.Cmp.Lexicographic.{pointwise}
use Rattle.icu_trie_core.specs.declared.header.TrieType.{TrieType}
use Rattle.icu_trie_core.specs.Blocks.{window, block_of, count_different}
use Rattle.icu_trie_core.specs.Format.{fast_limit}
use Rattle.icu_trie_builder.specs.Different.{count_different_but}

-- The number of distinct fast blocks: aligned blocks of 64 below the fast limit.
abbrev pub fast_blocks : TrieType → (ℕ → ℕ) → ℕ
fast_blocks t f = count_different (block_of 64 f) 0 (fast_limit t / 64)

-- The number of distinct small blocks: aligned blocks of 16 from the fast limit on. The whole code
-- space has 69,632 of them.
abbrev pub small_blocks : TrieType → (ℕ → ℕ) → ℕ
small_blocks t f = count_different (block_of 16 f) (fast_limit t / 16) (69632 - fast_limit t / 16)

-- The number of distinct index blocks: aligned blocks of 512 from the fast limit on. The whole code
-- space has 2,176 of them.
abbrev pub index_blocks : TrieType → (ℕ → ℕ) → ℕ
index_blocks t f = count_different (block_of 512 f) (fast_limit t / 512) (2176 - fast_limit t / 512)

-- An upper bound on the number of data cells.
abbrev pub data_bound : TrieType → (ℕ → ℕ) → ℕ
data_bound t f = 64 * fast_blocks t f + 16 * small_blocks t f + 160

-- True if the 16 numbers x occur in ys, next to each other.
abbrev pub stands_in : List ℕ → List ℕ → Bool
stands_in x ys =
    list_any (λ i. pointwise nat_eq (window 16 i ys) x) (range_with_len 0 (length ys + 1 - 16))

-- True if the 16 numbers x occur, next to each other, in one of the lists b 0, .., b (n - 1).
unfoldable pub stands_below : (ℕ → List ℕ) → ℕ → List ℕ → Bool
stands_below b n x = list_any (stands_in x) (map b (range_with_len 0 n))

-- The number of distinct small blocks whose 16 numbers occur in no aligned block of 64 below the
-- fast limit.
abbrev pub lone_small_blocks : TrieType → (ℕ → ℕ) → ℕ
lone_small_blocks t f =
    count_different_but (stands_below (block_of 64 f) (fast_limit t / 64)) (block_of 16 f)
    (fast_limit t / 16) (69632 - fast_limit t / 16)

-- A second upper bound on the number of data cells: small blocks that occur in fast ones need none.
abbrev pub compact_data_bound : TrieType → (ℕ → ℕ) → ℕ
compact_data_bound t f = 64 * fast_blocks t f + 16 * lone_small_blocks t f + 160

-- An upper bound on the number of index cells.
abbrev pub index_bound : TrieType → (ℕ → ℕ) → ℕ
index_bound t f = 36 * index_blocks t f + 3200

-- A smaller bound, if the data have at most 0x10000 cells, so that offsets have 16 bits.
abbrev pub short_index_bound : TrieType → (ℕ → ℕ) → ℕ
short_index_bound t f = 32 * index_blocks t f + 3200

-- The maps that may be rejected as too large: those with more than 800 distinct aligned blocks of
-- 512, or more than 12,000 of 16.
abbrev pub IsTooLarge : (ℕ → ℕ) → Type 0
IsTooLarge f = (800 < count_different (block_of 512 f) 0 2176)
    ⊎ (12000 < count_different (block_of 16 f) 0 69632)
