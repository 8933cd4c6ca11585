-- A set as source: its exact text in C and in Rust.
use Rattle.std.specs.Prelude.{◌≡◌, ℕ, ◌+◌, ◌-◌, ◌*◌, ◌%◌, ◌==◌, List, [], ◌∷◌, ◌++◌, codes, length, map, max, if◌then◌else◌}
use Rattle.std.specs.Char.{to_ascii_uppercase}
use Rattle.icu_zerovec.specs.CodePoints.{code_point_limit}
use Rattle.icu_invlist.specs.InversionList.{members_below, ranges_of}
use Rattle.icu_frozen_sets.specs.FrozenWords.{IsFrozenOf, offset_words}
use Rattle.ucptab_table.specs.Patterns.{filled, named, number_text}
use Rattle.ucptab_table.specs.declared.pattern.Number.TheVariants.{Decimal, Hexadecimal}

-- ---- What the texts have in common

-- The first line, a comment with the number of code points and the number of ranges.
unfoldable pub title : List ℕ → List ℕ
title set =
    filled [] (Decimal (members_below set code_point_limit) ∷ Decimal (length (ranges_of set)) ∷ [])
    (codes "// Made by ucptrie: a set of % code points in % ranges.\n")

-- What precedes the cell i of an array: eight cells to a line, with commas between them.
abbrev pub gap : ℕ → List ℕ
gap i = if i == 0 then [] else (if i % 8 == 0 then codes ",\n" else codes ", ")

-- The cells of an array from the cell i on, each after its comma or line end.
abbrev pub cells_from : ℕ → List ℕ → List ℕ
cells_from i [] = []
cells_from i (cell ∷ cells) =
    (gap i ++ number_text (Hexadecimal cell)) ++ cells_from (i + 1) cells

-- ---- Boundaries in C

-- What precedes the array of so many boundaries. It has at least one cell.
unfoldable pub c_head : List ℕ → ℕ → List ℕ
c_head name count = filled name (Decimal count ∷ Decimal (max count 1) ∷ [])
    (codes "\n#include <stdbool.h>\n#include <stdint.h>\n\n"
    ++ codes "// The set starts at the first boundary, ends before the second one, and so on.\n"
    ++ codes "enum { @_length = % };\n\nstatic const uint32_t @_boundaries[%] = {\n")

-- The boundaries. The empty set has a cell that is not read.
abbrev pub c_boundaries : List ℕ → List ℕ
c_boundaries [] = codes "0"
c_boundaries (boundary ∷ set) = cells_from 0 (boundary ∷ set)

-- The search in the boundaries.
unfoldable pub c_search : List ℕ → List ℕ
c_search name = named name
    (codes "\n};\n\n"
    ++ codes "// Whether c is in the set: whether an odd number of boundaries are at most c.\n"
    ++ codes "static inline bool @_contains(uint32_t c) {\n"
    ++ codes "    uint32_t low = 0, high = @_length;\n    while (low < high) {\n"
    ++ codes "        uint32_t middle = (low + high) / 2;\n"
    ++ codes "        if (@_boundaries[middle] <= c) {\n            low = middle + 1;\n"
    ++ codes "        } else {\n            high = middle;\n        }\n    }\n"
    ++ codes "    return low % 2 == 1;\n}\n")

-- A set in C: an array with its boundaries, and the search.
abbrev pub c_text : List ℕ → List ℕ → List ℕ
c_text name set = title set ++ c_head name (length set) ++ c_boundaries set ++ c_search name

-- ---- Boundaries in Rust

-- What precedes the array of so many boundaries.
unfoldable pub rust_head : List ℕ → ℕ → List ℕ
rust_head name count = filled name (Decimal count ∷ [])
    (codes "#[allow(dead_code, non_snake_case, clippy::module_inception)]\npub mod @ {\n"
    ++ codes "    /// The set starts at the first boundary, ends before the second one, and so on.\n"
    ++ codes "    #[rustfmt::skip]\n    pub static BOUNDARIES: [u32; %] = [\n")

-- The search in the boundaries.
unfoldable pub rust_search : List ℕ
rust_search =
    codes "\n    ];\n\n    /// Returns whether the set contains `c`: whether an odd number of "
    ++ codes "boundaries are at most `c`.\n    pub fn contains(c: u32) -> bool {\n"
    ++ codes "        BOUNDARIES.partition_point(|&boundary| boundary <= c) % 2 == 1\n    }\n}\n"

-- A set in Rust: a module with its boundaries, and the search.
abbrev pub rust_text : List ℕ → List ℕ → List ℕ
rust_text name set = title set ++ rust_head name (length set) ++ cells_from 0 set ++ rust_search

-- ---- A static set in Rust

-- What precedes the boundaries of a static set with this name, which is written in capitals.
unfoldable pub static_head : List ℕ → List ℕ
static_head name = named (map to_ascii_uppercase name)
    (codes "/// The set `@`.\n#[allow(dead_code)]\n#[rustfmt::skip]\n"
    ++ codes "pub static @: bekstaudi::codepointinvlist::CodePointInversionList<'static> =\n"
    ++ codes "    bekstaudi::codepointinvlist::CodePointInversionList::from_static("
    ++ codes "bekstaudi::zeroslice!(\n        bekstaudi::zerovec::PotentialCodePoint as u32; [\n")

-- What follows the boundaries.
unfoldable pub static_end : List ℕ
static_end = codes "\n    ]));\n"

-- A set in Rust as a static set: its boundaries in a call of the library, which tests them.
abbrev pub static_text : List ℕ → List ℕ → List ℕ
static_text name set = title set ++ static_head name ++ cells_from 0 set ++ static_end

-- ---- A frozen set in C

-- The last block with an offset in the words of a frozen set.
abbrev pub last_block : List ℕ → ℕ
last_block words = offset_words words - 1

-- What precedes the array of so many words. A look-up reads the last block's offset for all later blocks.
unfoldable pub frozen_c_head : List ℕ → ℕ → ℕ → List ℕ
frozen_c_head name count last = filled name (Decimal count ∷ Decimal last ∷ [])
    (codes "// The words of the frozen set, for bks_frozen_contains and bks_frozen_has of "
    ++ codes "bekstaudi.h. First come\n// offsets, one for each block of 1,024 code points. A block's "
    ++ codes "offset is the index of its sixteen words,\n// which have a bit for each code point. The last "
    ++ codes "offset is that of all later blocks.\n\n"
    ++ codes "#include <stdbool.h>\n#include <stdint.h>\n\n"
    ++ codes "enum { @_length = %, @_last_block = % };\n\n"
    ++ codes "static const uint64_t @_words[@_length] = {\n")

-- The look-up in the words.
unfoldable pub frozen_c_look_up : List ℕ → List ℕ
frozen_c_look_up name = named name
    (codes "\n};\n\n// Whether c is in the set, by two reads and without a library.\n"
    ++ codes "static inline bool @_contains(uint32_t c) {\n    uint32_t block = c >> 10;\n"
    ++ codes "    if (c > 0x10ffff) return false;\n"
    ++ codes "    if (block > @_last_block) block = @_last_block;\n"
    ++ codes "    return @_words[@_words[block] + (c >> 6 & 15)] >> (c & 63) & 1;\n}\n")

-- Words in C: an array with them, and the look-up.
abbrev pub frozen_c : List ℕ → List ℕ → List ℕ
frozen_c name words =
    frozen_c_head name (length words) (last_block words) ++ cells_from 0 words ++ frozen_c_look_up name

-- The text is the frozen set in C, with the words of the set.
pub record IsFrozenC (name set text : List ℕ) : Type 0 where
  pub words : List ℕ
  pub held : IsFrozenOf set words
  pub whole : text ≡ title set ++ frozen_c name words

-- ---- A frozen set in Rust

-- What precedes the array of so many words. A look-up reads the last block's offset for all later blocks.
unfoldable pub frozen_rust_head : List ℕ → ℕ → ℕ → List ℕ
frozen_rust_head name count last = filled name (Decimal last ∷ Decimal count ∷ [])
    (codes "#[allow(dead_code, non_snake_case, clippy::module_inception)]\npub mod @ {\n"
    ++ codes "    /// The last block with an offset, which is that of all later blocks too.\n"
    ++ codes "    const LAST_BLOCK: u32 = %;\n\n"
    ++ codes "    /// The words of the frozen set, for `FrozenView` of `bekstaudi`. First come offsets, "
    ++ codes "one for each\n    /// block of 1,024 code points. A block's offset is the index of its "
    ++ codes "sixteen words, which have a\n    /// bit for each code point.\n"
    ++ codes "    #[rustfmt::skip]\n    pub static WORDS: [u64; %] = [\n")

-- The look-up in the words.
unfoldable pub frozen_rust_look_up : List ℕ
frozen_rust_look_up =
    codes "\n    ];\n\n    /// Returns whether the set contains `c`, by two reads.\n"
    ++ codes "    pub fn contains(c: u32) -> bool {\n"
    ++ codes "        if c > 0x10FFFF {\n            return false;\n        }\n"
    ++ codes "        let block = (c >> 10).min(LAST_BLOCK);\n"
    ++ codes "        let offset = WORDS[block as usize];\n"
    ++ codes "        let word = WORDS[offset as usize + (c >> 6 & 15) as usize];\n"
    ++ codes "        (word >> (c & 63)) & 1 == 1\n    }\n}\n"

-- Words in Rust: a module with them, and the look-up.
abbrev pub frozen_rust : List ℕ → List ℕ → List ℕ
frozen_rust name words =
    frozen_rust_head name (length words) (last_block words) ++ cells_from 0 words ++ frozen_rust_look_up

-- The text is the frozen set in Rust, with the words of the set.
pub record IsFrozenRust (name set text : List ℕ) : Type 0 where
  pub words : List ℕ
  pub held : IsFrozenOf set words
  pub whole : text ≡ title set ++ frozen_rust name words
