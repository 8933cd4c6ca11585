-- A table as source: its exact text in TOML, in C and in Rust.
use Rattle.std.specs.Prelude.{ℕ, ◌+◌, ◌*◌, List, [], ◌∷◌, ◌++◌, codes, length}
use Rattle.icu_trie_core.specs.Format.{fast_limit, index1_start}
use Rattle.icu_trie_core.specs.ValueNumbers.{type_number}
use Rattle.ucptab_table.specs.Patterns.{filled, named}
use Rattle.ucptab_table.specs.declared.pattern.Number.{Number}
use Rattle.ucptab_table.specs.declared.pattern.Number.TheVariants.{Decimal, Hexadecimal}
use Rattle.ucptrie_tables.specs.Source.{cells_from, type_name}
use Rattle.ucptrie_tables.specs.Tables.{binary_bytes}
use Rattle.ucptrie_tables.specs.ValueWidth.{bits_of, bytes_of, code_of}
use Rattle.ucptrie_forms.specs.declared.c_source.TheConstants.{LOOK_UP}
use Rattle.ucptrie_forms.specs.declared.rust_source.TheConstants.{LOOK_UP as rust_look_up}
use Rattle.ucptrie_tables.specs.declared.table.Table.{Table}

-- ---- What the texts have in common

-- The numbers of the header in the order of ICU's struct: lengths, the high start in two forms,
-- type and width, null blocks and the null value.
abbrev pub header_numbers : Table → List Number
header_numbers t = Decimal (length t.trie.index) ∷ Decimal (length t.trie.values)
    ∷ Hexadecimal t.trie.header.high_start ∷ Hexadecimal t.trie.header.shifted12_high_start
    ∷ Decimal (type_number t.trie.header.trie_type) ∷ Decimal (code_of t.width)
    ∷ Hexadecimal t.trie.header.index3_null_offset ∷ Hexadecimal t.trie.header.data_null_offset
    ∷ Hexadecimal t.trie.header.null_value ∷ []

-- The comment about a table: its type, the bits of a value, and the sizes of its two arrays. A cell
-- of the index has two bytes.
unfoldable pub sizes_text : Table → List ℕ
sizes_text t = filled (type_name t.trie.header.trie_type)
    (Decimal (bits_of t.width) ∷ Decimal (length t.trie.index) ∷ Decimal (length t.trie.index * 2)
    ∷ Decimal (length t.trie.values) ∷ Decimal (length t.trie.values * bytes_of t.width) ∷ [])
    (codes "// Made by ucptrie: a @ code point trie, with values of % bits.\n"
    ++ codes "// Index: % cells, % bytes. Data: % cells, % bytes.\n")

-- ---- TOML

-- The array of the index in TOML, up to the end of its cells.
unfoldable pub toml_index : Table → List ℕ
toml_index t = codes "index = [\n  " ++ cells_from (codes "  ") 0 t.trie.index

-- The array of the data in TOML, up to the end of its cells, and what precedes it.
unfoldable pub toml_data : Table → List ℕ
toml_data t = filled [] (Decimal (bits_of t.width) ∷ []) (codes "\n]\ndata_% = [\n  ")
    ++ cells_from (codes "  ") 0 t.trie.values

-- What follows the data in TOML: the numbers of the header.
unfoldable pub toml_header : Table → List ℕ
toml_header t = filled [] (header_numbers t)
    (codes "\n]\nindexLength = %\ndataLength = %\nhighStart = %\nshifted12HighStart = %\n"
    ++ codes "type = %\nvalueWidth = %\nindex3NullOffset = %\ndataNullOffset = %\nnullValue = %\n")

-- A table in TOML, as ICU's tools write it.
abbrev pub toml_text : Table → List ℕ
toml_text t = toml_index t ++ toml_data t ++ toml_header t

-- ---- C

-- The array of the index in C, up to the end of its cells.
unfoldable pub c_index : List ℕ → Table → List ℕ
c_index name t = filled name (Decimal (length t.trie.index) ∷ [])
    (codes "static const uint16_t @_trieIndex[%]={\n") ++ cells_from [] 0 t.trie.index

-- The array of the data in C, up to the end of its cells, and what precedes it.
unfoldable pub c_data : List ℕ → Table → List ℕ
c_data name t = filled name (Decimal (bits_of t.width) ∷ Decimal (length t.trie.values) ∷ [])
    (codes "\n};\n\nstatic const uint%_t @_trieData[%]={\n") ++ cells_from [] 0 t.trie.values

-- What follows the data in C: the numbers that the look-up needs.
unfoldable pub c_numbers : List ℕ → Table → List ℕ
c_numbers name t = filled name
    (Hexadecimal (fast_limit t.trie.header.trie_type) ∷ Hexadecimal t.trie.header.high_start
    ∷ Decimal (index1_start t.trie.header.trie_type) ∷ Decimal (length t.trie.values) ∷ [])
    (codes "\n};\n\nenum {\n    @_fastLimit = %,\n    @_highStart = %,\n    @_index1 = %,\n"
    ++ codes "    @_dataLength = %\n};\n\n")

-- The look-up in C: the constant of the source.
unfoldable pub c_look_up : List ℕ → List ℕ
c_look_up name = named name LOOK_UP.now

-- The trie for ICU's functions and macros.
unfoldable pub c_struct : List ℕ → Table → List ℕ
c_struct name t = filled name (header_numbers t)
    (codes "\n// The trie for ICU, if <unicode/ucptrie.h> is included before.\n"
    ++ codes "#ifdef UCPTRIE_FAST_GET\nstatic const UCPTrie @_trie={\n    @_trieIndex,\n"
    ++ codes "    { @_trieData },\n    %, %,\n    %, %,\n    %, %,\n    0, 0,\n    %, %,\n    %,\n"
    ++ codes "};\n#endif\n")

-- A table in C: its sizes, its arrays, the numbers of the look-up, the look-up, and ICU's struct.
abbrev pub c_text : List ℕ → Table → List ℕ
c_text name t = sizes_text t ++ codes "\n#include <stdint.h>\n\n" ++ c_index name t
    ++ c_data name t ++ c_numbers name t ++ c_look_up name ++ c_struct name t

-- ---- C for bekstaudi.h

-- The first line: a comment with the type of the trie, the bits of a value and the number of bytes.
unfoldable pub bks_title : List ℕ → ℕ → ℕ → List ℕ
bks_title kind bits size = filled kind (Decimal bits ∷ Decimal size ∷ [])
    (codes "// Made by ucptrie: a @ code point trie, with values of % bits, in % bytes.\n")

-- What precedes the array of so many bytes.
unfoldable pub bks_head : List ℕ → ℕ → List ℕ
bks_head name size = filled name (Decimal size ∷ [])
    (codes "\n#include <bekstaudi.h>\n\n// The trie in ICU's binary form.\n"
    ++ codes "__attribute__((aligned(4))) static const unsigned char @_table[%]={\n")

-- What follows the bytes: the function that opens the trie in them.
unfoldable pub bks_open : List ℕ → Table → List ℕ
bks_open name t = filled name (Decimal (bits_of t.width) ∷ Decimal (bits_of t.width) ∷ [])
    (codes "\n};\n\n// Opens the trie, in which bks_get%, bks_trie%_get_utf8 and others find values, "
    ++ codes "and returns BKS_OK.\nstatic inline uint32_t @_open(bks_trie *trie) {\n"
    ++ codes "    return bks_open(trie, @_table, sizeof @_table);\n}\n")

-- The array of some bytes, and the function that opens the trie in them.
abbrev pub bks_array : List ℕ → Table → List ℕ → List ℕ
bks_array name t bytes =
    bks_head name (length bytes) ++ cells_from [] 0 bytes ++ bks_open name t

-- A table in C for bekstaudi.h: the bytes of ICU's binary form as an array, and the function that
-- opens the trie in them.
abbrev pub bks_text : List ℕ → Table → List ℕ
bks_text name t =
    bks_title (type_name t.trie.header.trie_type) (bits_of t.width) (length (binary_bytes t))
    ++ bks_array name t (binary_bytes t)

-- ---- Rust

-- The head of the module in Rust, with the header field by field.
unfoldable pub rust_head : List ℕ → Table → List ℕ
rust_head name t = filled name
    (Decimal (bits_of t.width) ∷ Decimal (type_number t.trie.header.trie_type)
    ∷ Hexadecimal t.trie.header.high_start ∷ Hexadecimal t.trie.header.shifted12_high_start
    ∷ Hexadecimal t.trie.header.index3_null_offset ∷ Hexadecimal t.trie.header.data_null_offset
    ∷ Hexadecimal t.trie.header.null_value ∷ Hexadecimal (fast_limit t.trie.header.trie_type)
    ∷ Decimal (index1_start t.trie.header.trie_type) ∷ [])
    (codes "#[allow(dead_code, non_snake_case, clippy::module_inception)]\npub mod @ {\n"
    ++ codes "    pub type Value = u%;\n\n    pub const TRIE_TYPE: u8 = %;\n"
    ++ codes "    pub const HIGH_START: u32 = %;\n    pub const SHIFTED12_HIGH_START: u16 = %;\n"
    ++ codes "    pub const INDEX3_NULL_OFFSET: u16 = %;\n"
    ++ codes "    pub const DATA_NULL_OFFSET: u32 = %;\n    pub const NULL_VALUE: u32 = %;\n"
    ++ codes "    const FAST_LIMIT: u32 = %;\n"
    ++ codes "    const INDEX1: u32 = %;\n\n")

-- The array of the index in Rust, up to the end of its cells.
unfoldable pub rust_index : Table → List ℕ
rust_index t = filled [] (Decimal (length t.trie.index) ∷ [])
    (codes "    #[rustfmt::skip]\n    pub static INDEX: [u16; %] = [\n")
    ++ cells_from [] 0 t.trie.index

-- The array of the data in Rust, up to the end of its cells, and what precedes it.
unfoldable pub rust_data : Table → List ℕ
rust_data t = filled [] (Decimal (length t.trie.values) ∷ [])
    (codes "\n    ];\n\n    #[rustfmt::skip]\n    pub static DATA: [Value; %] = [\n")
    ++ cells_from [] 0 t.trie.values

-- A table in Rust: its sizes, and a module with the header, the arrays and the look-up. What
-- follows the data is the constant of the source.
abbrev pub rust_text : List ℕ → Table → List ℕ
rust_text name t =
    sizes_text t ++ rust_head name t ++ rust_index t ++ rust_data t ++ rust_look_up.now
