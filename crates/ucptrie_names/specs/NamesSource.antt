-- Names of values as source: the exact text of an enum in C and in Rust, and of a static trie.
use Rattle.std.specs.Prelude.{ℕ, ◌==◌, ◌&&◌, nat_le, nat_lt, Bool, true, List, [], ◌∷◌, ◌++◌, codes, decimal, length, map, string_bytes, if◌then◌else◌}
use Rattle.std.specs.Char.{to_ascii_uppercase}
use Rattle.std.specs.List.{flat_map}
use Rattle.ucd_files.specs.declared.names.Name.{Name}
use Rattle.ucptab_table.specs.Patterns.{filled, named}
use Rattle.ucptab_table.specs.declared.pattern.Number.TheVariants.{Decimal}
use Rattle.ucptrie_names.specs.ValueIdentifiers.{enum_name, listed, AreValuesOf}
use Rattle.ucptrie_names.specs.declared.value_names.EnumValue.{EnumValue}

-- ---- Values

-- The source has an enum: there are names, and at most 4,096.
abbrev pub has_enum : List Name → Bool
has_enum names = nat_lt 0 (length names) && nat_le (length names) 4096

-- The highest number of 8, 16 or 32 bits.
abbrev pub highest_of : ℕ → ℕ
highest_of bits = if bits == 8 then 0xff else (if bits == 16 then 0xffff else 0xffffffff)

-- The values of an enum in Rust whose numbers have so many bits.
abbrev pub AreRustValues : ℕ → List Name → List EnumValue → Type 0
AreRustValues bits names values = AreValuesOf true (listed (highest_of bits) [] names) values

-- The line of a value in an enum: `IDENTIFIER = NUMBER,`, after its prefix.
unfoldable pub value_line : List ℕ → EnumValue → List ℕ
value_line start v =
    start ++ string_bytes v.identifier ++ codes " = " ++ decimal v.number ++ codes ",\n"

-- The lines of values in an enum, each after the prefix.
abbrev pub value_lines : List ℕ → List EnumValue → List ℕ
value_lines start values = flat_map (value_line start) values

-- ---- C

-- What precedes the values of an enum in C.
unfoldable pub c_enum_head : List ℕ → List ℕ
c_enum_head table = named table (codes "\n// The values of @, by name.\nenum @_value {\n")

-- The values of a table as an enum in C. Each identifier starts with the table's name and `_`.
abbrev pub c_enum : List ℕ → List EnumValue → List ℕ
c_enum table values =
    c_enum_head table ++ value_lines (named table (codes "    @_")) values ++ codes "};\n"

-- ---- Rust

-- What precedes an enum in Rust: its attributes.
unfoldable pub rust_attributes : List ℕ → ℕ → List ℕ
rust_attributes module_name bits = filled module_name (Decimal bits ∷ [])
    (codes "\n/// The values of `@`, by name.\n"
    ++ codes "#[allow(dead_code, clippy::enum_variant_names, clippy::upper_case_acronyms)]\n"
    ++ codes "#[rustfmt::skip]\n"
    ++ codes "#[derive(Clone, Copy, Debug, PartialEq, Eq, PartialOrd, Ord, Hash)]\n#[repr(u%)]\n")

-- The head of an enum in Rust.
unfoldable pub rust_enum_head : List ℕ → List ℕ
rust_enum_head title = named title (codes "pub enum @ {\n")

-- The end of an enum in Rust, and the conversion of numbers up to its arms.
unfoldable pub rust_conversion : List ℕ → ℕ → List ℕ
rust_conversion title bits =
    filled title (Decimal bits ∷ Decimal bits ∷ Decimal bits ∷ Decimal bits ∷ [])
    (codes "}\n\nimpl core::convert::TryFrom<u%> for @ {\n    type Error = u%;\n\n"
    ++ codes "    #[rustfmt::skip]\n    fn try_from(value: u%) -> Result<@, u%> {\n"
    ++ codes "        Ok(match value {\n")

-- The arm of a value in the conversion: `NUMBER => TITLE::IDENTIFIER,`.
unfoldable pub rust_arm : List ℕ → EnumValue → List ℕ
rust_arm title v = codes "            " ++ decimal v.number ++ named title (codes " => @::")
    ++ string_bytes v.identifier ++ codes ",\n"

-- The end of the conversion of numbers, of which `count` have a value. An arm for those without one
-- precedes it, if there are any.
unfoldable pub rust_conversion_end : ℕ → ℕ → List ℕ
rust_conversion_end bits count =
    (if nat_le count (highest_of bits) then codes "            _ => return Err(value),\n" else [])
    ++ codes "        })\n    }\n}\n"

-- The function that returns the value of a code point in Rust.
unfoldable pub rust_of : List ℕ → List ℕ → List ℕ
rust_of title module_name =
    named title (codes "\n#[allow(dead_code)]\nimpl @ {\n"
    ++ codes "    /// Returns the value of `c`, or `None` if it has no name, as above 0x10FFFF.\n"
    ++ codes "    #[rustfmt::skip]\n    pub fn of(c: u32) -> Option<@> {\n"
    ++ codes "        core::convert::TryFrom::try_from(")
    ++ named module_name (codes "@::get(c)).ok()\n    }\n}\n")

-- An enum with this title in Rust, and the conversion of numbers to it.
abbrev pub rust_titled : List ℕ → ℕ → List EnumValue → List ℕ
rust_titled title bits values = rust_enum_head title ++ value_lines (codes "    ") values
    ++ rust_conversion title bits ++ flat_map (rust_arm title) values
    ++ rust_conversion_end bits (length values)

-- The values of the table of a module as an enum in Rust, named after the module.
abbrev pub rust_enum : List ℕ → ℕ → List EnumValue → List ℕ
rust_enum module_name bits values = rust_attributes module_name bits
    ++ rust_titled (enum_name module_name) bits values
    ++ rust_of (enum_name module_name) module_name

-- ---- A static trie

-- What precedes the enum of a static trie: the call of the macro that declares it.
unfoldable pub static_enum_head : List ℕ → List ℕ → ℕ → List ℕ
static_enum_head module_name title bits =
    named module_name (codes "\nbekstaudi::trie_values! {\n    /// The values of `@`, by name.\n"
    ++ codes "    #[allow(dead_code, clippy::enum_variant_names, clippy::upper_case_acronyms)]\n")
    ++ filled title (Decimal bits ∷ []) (codes "    pub enum @: u% {\n")

-- The enum of a static trie, with a title.
abbrev pub static_enum : List ℕ → List ℕ → ℕ → List EnumValue → List ℕ
static_enum module_name title bits values = static_enum_head module_name title bits
    ++ value_lines (codes "        ") values ++ codes "    }\n}\n"

-- The declaration of the static trie of a module with values of a type. Its name is that of the
-- module in capitals.
unfoldable pub static_trie : List ℕ → List ℕ → List ℕ
static_trie module_name value =
    named module_name
    (codes "\n/// The trie of `@`.\n#[allow(dead_code)]\n#[rustfmt::skip]\npub static ")
    ++ map to_ascii_uppercase module_name
    ++ named value (codes ": bekstaudi::codepointtrie::CodePointTrie<'static, @> = ")
    ++ named module_name (codes "bekstaudi::trie_of!(@ as ") ++ named value (codes "@);\n")

-- The type of numbers with so many bits in Rust.
unfoldable pub number_type : ℕ → List ℕ
number_type bits = codes "u" ++ decimal bits

-- The static trie of a module whose values have no enum.
abbrev pub static_numbers : List ℕ → ℕ → List ℕ
static_numbers module_name bits = static_trie module_name (number_type bits)

-- The static trie of a module, and before it the enum of its values, named after the module.
abbrev pub static_values : List ℕ → ℕ → List EnumValue → List ℕ
static_values module_name bits values =
    static_enum module_name (enum_name module_name) bits values
    ++ static_trie module_name (enum_name module_name)
