-- What a walk sees at each code point. A walk trusts what the header says about the high value and
-- about null blocks. If the trie is not coherent, it may therefore see another value than a look-up
-- returns.
use Rattle.std.specs.Prelude.{◌≡◌, ℕ, ◌<◌, ◌≤◌, nat_lt, nat_eq, Bool, false, ◌||◌, List, Option, Some, None, if◌then◌else◌}
use Rattle.icu_trie_core.specs.declared.header.CodePointTrieHeader.{CodePointTrieHeader}
use Rattle.icu_trie_core.specs.Contents.{Contents}
use Rattle.icu_trie_core.specs.Format.{answer, fast_limit, fast_offset, small_offset, index2_cell, high_value}

-- True if the cell exists and equals n.
abbrev pub is_cell : ℕ → Option ℕ → Bool
is_cell n None = false
is_cell n (Some cell) = nat_eq cell n

-- True if the header names u's block as null: by its data offset or, from the fast limit on, by its
-- index-2 cell.
abbrev pub names_null : CodePointTrieHeader → List ℕ → ℕ → Bool
names_null h index u =
    if nat_lt u (fast_limit h.trie_type) then is_cell h.data_null_offset (fast_offset index u)
    else (is_cell h.index3_null_offset (index2_cell h.trie_type index u)
    || is_cell h.data_null_offset (small_offset h.trie_type index u))

-- What a walk sees at u. From the high start on it is the high value; in a block named as null it
-- is the null value; otherwise it is the look-up result. None if the cell or the null value is
-- missing.
unfoldable pub seen : {A : Type 0} → (ℕ → Option A) → CodePointTrieHeader → Contents A → ℕ
    → Option A
seen of_number h cells u =
    if nat_lt u h.high_start
    then (if names_null h cells.index u then of_number h.null_value else answer h cells u)
    else high_value cells.values

module _ {A : Type 0} (of_number : ℕ → Option A) (h : CodePointTrieHeader)
    (cells : Contents A) where
  -- A walk sees the value at every code point in c..end.
  abbrev pub SeesFrom : ℕ → ℕ → A → Type 0
  SeesFrom c end value = (u : ℕ) → c ≤ u → u < end → seen of_number h cells u ≡ Some value

  -- The reason why a walk from c returns no range: it sees the value up to a code point at which it
  -- sees nothing.
  abbrev pub Misses : ℕ → A → Type 0
  Misses c value =
      (u : ℕ) × (c ≤ u) × (u < 0x110000) × SeesFrom c u value
      × (seen of_number h cells u ≡ None)
