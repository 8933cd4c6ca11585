-- A unit trie as source: the exact text of a static trie in Rust.
use Rattle.std.specs.Prelude.{ℕ, ◌+◌, ◌/◌, ◌%◌, ◌==◌, ◌&&◌, nat_le, not, Bool, List, [], ◌∷◌, ◌++◌, codes, length, map, if◌then◌else◌}
use Rattle.std.specs.Char.{is_ascii_digit, to_ascii_uppercase}
use Rattle.ucptab_table.specs.Messages.{byte_text}
use Rattle.ucptab_table.specs.Patterns.{filled, named}
use Rattle.ucptab_table.specs.declared.pattern.Number.TheVariants.{Decimal}

-- A byte that is in a byte string as itself: a graphic ASCII character, but no digit, `"` or `\`.
unfoldable pub is_plain : ℕ → Bool
is_plain b = (nat_le 33 b && nat_le b 126)
    && (not (is_ascii_digit b) && (not (b == 34) && not (b == 92)))

-- A byte in a byte string: NUL as `\0`, a plain byte as itself, and any other one as `\x` and two
-- hexadecimal digits.
unfoldable pub escaped : ℕ → List ℕ
escaped b = if b == 0 then 92 ∷ (48 ∷ [])
    else (if is_plain b then b ∷ [] else 92 ∷ (120 ∷ byte_text b))

-- What precedes the byte i: a `\` and a line end before each 32nd, which are no part of the string.
abbrev pub gap : ℕ → List ℕ
gap i = if i % 32 == 0 then 92 ∷ (10 ∷ []) else []

-- The bytes of a byte string from the byte i on.
abbrev pub bytes_from : ℕ → List ℕ → List ℕ
bytes_from i [] = []
bytes_from i (b ∷ bytes) = (gap i ++ escaped b) ++ bytes_from (i + 1) bytes

-- The first line: a comment with the number of units and of bytes.
unfoldable pub static_title : ℕ → List ℕ
static_title size = filled [] (Decimal (size / 2) ∷ Decimal size ∷ [])
    (codes "// Made by ucptrie: the units of a UCharsTrie. Units: %, % bytes.\n")

-- What precedes the bytes of a static trie with this name, which is written in capitals.
unfoldable pub static_head : List ℕ → List ℕ
static_head name = named (map to_ascii_uppercase name)
    (codes "/// The unit trie `@`.\n#[allow(dead_code)]\n#[rustfmt::skip]\n"
    ++ codes "pub static @: bekstaudi::char16trie::Char16Trie<'static> =\n"
    ++ codes "    bekstaudi::char16trie::Char16Trie::from_static("
    ++ codes "bekstaudi::zerovec::ZeroSlice::from_static(b\"")

-- The bytes of units in Rust as a static trie.
abbrev pub static_text : List ℕ → List ℕ → List ℕ
static_text name bytes = static_title (length bytes) ++ static_head name ++ bytes_from 0 bytes
    ++ codes "\"));\n"
