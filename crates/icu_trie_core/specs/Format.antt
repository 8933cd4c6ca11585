-- The format of a code point trie (ICU4C's UCPTrie): how to find the data cell of a code point.
use Rattle.std.specs.Prelude.{ℕ, ◌+◌, ◌-◌, ◌*◌, ◌/◌, ◌%◌, ◌^◌, nat_lt, List, length, slice_get, Option, Some, None, if◌then◌else◌}
use Rattle.std.specs.Option.{option_and_then, option_or}
use Rattle.icu_trie_core.specs.declared.header.TrieType.{TrieType}
use Rattle.icu_trie_core.specs.declared.header.TrieType.TheVariants.{Fast, Small}
use Rattle.icu_trie_core.specs.declared.header.CodePointTrieHeader.{CodePointTrieHeader}
use Rattle.icu_trie_core.specs.Contents.{Contents}

-- The fast limit: the first code point that has no cell in the fast index. Every other number that
-- depends on the type of a trie is computed from it.
abbrev pub fast_limit : TrieType → ℕ
fast_limit Fast = 0x10000
fast_limit Small = 0x1000

-- The index position at which the index-1 cell of code point 0 would be (1,020 or 64): index-1
-- follows the fast index and omits each cell whose 0x4000 code points are below the fast limit.
abbrev pub index1_start : TrieType → ℕ
index1_start trie_type = fast_limit trie_type / 64 - fast_limit trie_type / 0x4000

-- Data offset number q of a group of eight, as 18 bits. The cell `high` has bits 16 and 17 of all
-- eight offsets, two bits each with the first offset's at the top. The cell `low` has the low 16
-- bits.
abbrev pub long_offset : ℕ → ℕ → ℕ → ℕ
long_offset high low q = high / 2 ^ (14 - 2 * q) % 4 * 0x10000 + low

-- f applied to the index cell at i, or None if there is no such cell.
abbrev pub with_cell : {A : Type 0} → List ℕ → ℕ → (ℕ → Option A) → Option A
with_cell index i f = option_and_then f (slice_get index i)

-- Data offset number p (p < 32) of the index-3 block that an index-2 cell names. If bit 15 of the
-- cell is set, the offsets have 18 bits, and each group of nine cells stores eight of them.
abbrev pub offset_in_block : List ℕ → ℕ → ℕ → Option ℕ
offset_in_block index cell p =
    if nat_lt cell 0x8000 then slice_get index (cell + p)
    else (let group = cell - 0x8000 + 9 * (p / 8) in
    with_cell index group
    (λ high. with_cell index (group + 1 + p % 8) (λ low. Some (long_offset high low (p % 8)))))

-- The index-2 cell of u, which covers a block of 512 code points.
abbrev pub index2_cell : TrieType → List ℕ → ℕ → Option ℕ
index2_cell trie_type index u =
    with_cell index (u / 0x4000 + index1_start trie_type)
    (λ block. slice_get index (block + u / 0x200 % 32))

-- The data offset of u's block of 64, if u is below the fast limit.
abbrev pub fast_offset : List ℕ → ℕ → Option ℕ
fast_offset index u = slice_get index (u / 64)

-- The data offset of u's block of 16, if u is at or above the fast limit.
unfoldable pub small_offset : TrieType → List ℕ → ℕ → Option ℕ
small_offset trie_type index u =
    option_and_then (λ cell. offset_in_block index cell (u / 16 % 32))
    (index2_cell trie_type index u)

-- The position of the high value in data of length len: the last cell but one.
abbrev pub high_cell : ℕ → Option ℕ
high_cell len = if nat_lt len 2 then None else Some (len - 2)

-- The data position of u's cell, which may be outside the data. None if u is above 0x10FFFF, if an
-- index cell is missing, or if data of length len have no high value.
abbrev pub place : CodePointTrieHeader → List ℕ → ℕ → ℕ → Option ℕ
place h index len u =
    if nat_lt 0x10FFFF u then None
    else (if nat_lt u (fast_limit h.trie_type)
    then option_and_then (λ offset. Some (offset + u % 64)) (fast_offset index u)
    else (if nat_lt u h.high_start
    then option_and_then (λ offset. Some (offset + u % 16)) (small_offset h.trie_type index u)
    else high_cell len))

-- The data position of u's cell, or of the last cell (the error value) if `place` is None.
abbrev pub place_or_last : CodePointTrieHeader → List ℕ → ℕ → ℕ → Option ℕ
place_or_last h index len u = option_or (place h index len u) (Some (len - 1))

-- The result of looking up u: its data cell, or None if the look-up yields the error value.
unfoldable pub answer : {T : Type 0} → CodePointTrieHeader → Contents T → ℕ → Option T
answer h cells u =
    option_and_then (slice_get cells.values) (place h cells.index (length cells.values) u)

-- The high value. In a coherent trie every code point from the high start on has it.
abbrev pub high_value : {T : Type 0} → List T → Option T
high_value values = option_and_then (slice_get values) (high_cell (length values))
