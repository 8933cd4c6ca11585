-- What a TOML file of ICU's icuexportdata has if it has neither a trie of code points nor a set.
use Rattle.std.specs.Prelude.{ℕ, ◌||◌, Bool, false, List, [], ◌∷◌, codes, is_some, Option, Some, None, if◌then◌else◌}
use Rattle.toml.specs.Data.{Data, Members, as_table, get_member}
use Rattle.ucptrie_readers.specs.TomlNames.{items_at}
use Rattle.ucptrie_readers.specs.declared.other_toml.OtherToml.{OtherToml}
use Rattle.ucptrie_readers.specs.declared.other_toml.OtherToml.TheVariants.{Compositions, Scalars, Files, Masks}

-- The table has the key.
abbrev pub has_key : List ℕ → Members → Bool
has_key key table = is_some (get_member key table)

-- The value is a table with the name of a file.
abbrev pub is_file : Option Members → Bool
is_file None = false
is_file (Some table) = has_key (codes "filename") table

-- The first of the items has the name of a file.
abbrev pub starts_with_file : Option (List Data) → Bool
starts_with_file None = false
starts_with_file (Some []) = false
starts_with_file (Some (d ∷ ds)) = is_file (as_table d)

-- The first item of the array `index` has the name of a file.
abbrev pub has_files : Members → Bool
has_files file = starts_with_file (items_at (codes "index") file)

-- What the file has, by its keys.
abbrev pub other_toml : Members → Option OtherToml
other_toml file = if has_key (codes "compositions") file then Some Compositions
    else (if has_key (codes "scalars16") file || has_key (codes "scalars32") file then Some Scalars
    else (if has_key (codes "mask_property") file then Some Masks
    else (if has_files file then Some Files else None)))
