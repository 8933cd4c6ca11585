-- The parts of the trie that maps each code point to the number of its plane.
use Rattle.std.specs.Prelude.{ℕ, ◌+◌, ◌*◌, ◌/◌, ◌%◌, List, [], ◌∷◌, ◌++◌, map, replicate}
use Rattle.std.specs.List.{range_with_len}
use Rattle.icu_trie_core.specs.declared.header.TrieType.TheVariants.{Small}
use Rattle.icu_trie_core.specs.declared.header.CodePointTrieHeader.{CodePointTrieHeader}

-- The header. All code points from 0x100000 on have the high value.
abbrev pub planes_header : CodePointTrieHeader
planes_header = record {
  high_start = 0x100000;
  shifted12_high_start = 0x100;
  index3_null_offset =
      2;
  data_null_offset = 0;
  null_value = 0;
  trie_type = Small;
}

-- n cells, of which the cell at index i, counted from 0, is f i.
abbrev pub cells : ℕ → (ℕ → ℕ) → List ℕ
cells n f = map f (range_with_len 0 n)

-- The fast index: one cell for each block of 64 code points below 0x1000.
abbrev pub planes_fast_index : List ℕ
planes_fast_index = 0 ∷ 0x40 ∷ replicate 62 0

-- index-1: one cell for each 0x4000 code points below the high start. There is one index-2 block
-- for the first of plane 0, one for the other three of plane 0, and one for each of planes 1 to 15.
abbrev pub planes_index1 : List ℕ
planes_index1 = 0x288 ∷ (replicate 3 0x290 ++ cells 60 (λ i. 0x2B0 + 0x20 * (i / 4)))

-- The index-3 blocks: offsets in the data.
abbrev pub planes_index3 : List ℕ
planes_index3 = cells 8 (λ i. 0x10 * i)
    ++ (cells 32 (λ i. 0x10 * (i % 4)) ++ cells 480 (λ i. 0x80 + 0x10 * (i / 32)))

-- The index-2 blocks: offsets of index-3 blocks.
abbrev pub planes_index2 : List ℕ
planes_index2 = 0x80
    ∷ (replicate 7 0x88 ++ (replicate 32 2 ++ cells 480 (λ i. 0xA8 + 0x20 * (i / 32))))

-- The index.
unfoldable pub planes_index : List ℕ
planes_index = planes_fast_index ++ (planes_index1 ++ (planes_index3 ++ planes_index2))

-- The data: 0 for plane 0, blocks of 16 for planes 1 to 15, and at the end the high value, 16, and
-- the error value, 0.
unfoldable pub planes_data : List ℕ
planes_data = replicate 128 0 ++ (cells 240 (λ i. 1 + i / 16) ++ (replicate 3 0x10 ++ 0 ∷ []))
