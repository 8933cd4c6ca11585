-- Which table of a TOML file has the trie, and the width of its values.
use Rattle.std.specs.Prelude.{Option, Some, None, is_some, codes, if◌then◌else◌, option_and_then, unwrap_or}
use Rattle.std.specs.Option.{option_or}
use Rattle.toml.specs.Data.{Data, Items, Members, no_members, member, as_array, as_table, get_item, get_member}
use Rattle.icu_trie_formats.specs.TrieToml.{TomlParts}
use Rattle.ucptrie_tables.specs.declared.width.ValueWidth.{ValueWidth}
use Rattle.ucptrie_tables.specs.declared.width.ValueWidth.TheVariants.{Bits8, Bits16, Bits32}

-- The first item if the value is an array, else the value itself.
abbrev pub first_or_self : Option Items → Data → Option Data
first_or_self (Some items) d = get_item 0 items
first_or_self None d = Some d

-- The first of the properties at a key.
abbrev pub first_property : Data → Option Data
first_property d = first_or_self (as_array d) d

-- The value of the key `code_point_trie`, if there is one; else the table itself, if it has an
-- `index`.
abbrev pub trie_or_self : Option Data → Members → Option Members
trie_or_self (Some trie) property = as_table trie
trie_or_self None property =
    if is_some (get_member (codes "index") property) then Some property else None

-- The trie in a property's table.
abbrev pub trie_of_table : Members → Option Members
trie_of_table property = trie_or_self (get_member (codes "code_point_trie") property) property

-- The trie of the properties at a key, as ICU's icuexportdata writes them.
abbrev pub trie_of_property : Data → Option Members
trie_of_property d = option_and_then trie_of_table (option_and_then as_table (first_property d))

-- The trie of the first key, in ascending order, that has one.
abbrev pub first_trie : Members → Option Members
first_trie no_members = None
first_trie (member key d others) = option_or (trie_of_property d) (first_trie others)

-- The table of a file that has its trie: that of the first property with one, and else the file's.
abbrev pub trie_table : Members → Members
trie_table file = unwrap_or (first_trie file) file

-- The width of the first array of data that a table has.
abbrev pub width_of : TomlParts → ValueWidth
width_of parts =
    if is_some parts.data_8 then Bits8
    else (if is_some parts.data_16 then Bits16 else Bits32)
