-- The names of the values of a property in a TOML file of ICU's icuexportdata.
use Rattle.std.specs.Prelude.{◌≡◌, ℕ, ◌+◌, ◌==◌, Bool, true, false, List, [], ◌∷◌, ◌++◌, codes, Option, Some, None, Result, Ok, Err, if◌then◌else◌, option_and_then, option_map, ⊤}
use Rattle.std.specs.List.{find}
use Rattle.std.specs.Option.{ok_or}
use Rattle.toml.specs.Data.{Data, Members, as_integer, as_str, as_table, get_member}
use Rattle.icu_zerovec.specs.FirstFault.{and_then}
use Rattle.icu_trie_formats.specs.TrieToml.{items_in, u32_of}
use Rattle.ucd_files.specs.Names.{is_match}
use Rattle.ucd_files.specs.declared.names.Matching.TheVariants.{Exact}
use Rattle.ucptrie_readers.specs.declared.toml_names.NameArray.{NameArray}
use Rattle.ucptrie_readers.specs.declared.toml_names.NameArray.TheVariants.{Values, Ranges}
use Rattle.ucptrie_readers.specs.declared.toml_names.NamesError.{NamesError}
use Rattle.ucptrie_readers.specs.declared.toml_names.NamesError.TheVariants.{Item, Memory}

-- ---- Names with numbers, as pairs

-- A number that is there is this one.
abbrev pub is_number : ℕ → Option ℕ → Bool
is_number number None = false
is_number number (Some found) = found == number

-- The number of the first of the pairs with the text.
abbrev pub number_in : List (List ℕ × ℕ) → List ℕ → Option ℕ
number_in names text = option_map (λ name. name.1) (find (λ name. is_match Exact name.0 text) names)

-- The text is a name of this number: the first pair with the text has it.
abbrev pub is_name_of : ℕ → List (List ℕ × ℕ) → List ℕ → Bool
is_name_of number names text = is_number number (number_in names text)

-- The names, and the text as one of a number, unless it is one already.
abbrev pub with_name : ℕ → List (List ℕ × ℕ) → List ℕ → List (List ℕ × ℕ)
with_name number names text =
    if is_name_of number names text then names else names ++ (text, number) ∷ []

-- ---- One value. The names are None if it has a name that is no text

-- The names, and a value of the file as a name of a number.
abbrev pub with_text : ℕ → List (List ℕ × ℕ) → Data → Option (List (List ℕ × ℕ))
with_text number names d = option_map (with_name number names) (as_str d)

-- The names, and values of the file as names of a number.
abbrev pub with_texts : ℕ → List (List ℕ × ℕ) → List Data → Option (List (List ℕ × ℕ))
with_texts number names [] = Some names
with_texts number names (d ∷ ds) =
    option_and_then (λ more. with_texts number more ds) (with_text number names d)

-- The names, and the items of an array of the file as names of a number.
abbrev pub with_array : ℕ → List (List ℕ × ℕ) → Data → Option (List (List ℕ × ℕ))
with_array number names d = option_and_then (with_texts number names) (items_in d)

-- The names, and a value of the file if there is one, as `with` adds it.
abbrev pub with_optional : (List (List ℕ × ℕ) → Data → Option (List (List ℕ × ℕ)))
    → List (List ℕ × ℕ) → Option Data → Option (List (List ℕ × ℕ))
with_optional with names None = Some names
with_optional with names (Some d) = with names d

-- The names, and the text at a key of a table, if the table has the key.
abbrev pub with_name_at : List ℕ → ℕ → List (List ℕ × ℕ) → Members
    → Option (List (List ℕ × ℕ))
with_name_at key number names table =
    with_optional (with_text number) names (get_member key table)

-- The names, and the texts of the array at a key of a table, if the table has the key.
abbrev pub with_names_at : List ℕ → ℕ → List (List ℕ × ℕ) → Members
    → Option (List (List ℕ × ℕ))
with_names_at key number names table =
    with_optional (with_array number) names (get_member key table)

-- The names, and those in the table of a value with this number: its long name, its short one, the
-- only one in a range, and its other ones.
abbrev pub with_value : ℕ → List (List ℕ × ℕ) → Members → Option (List (List ℕ × ℕ))
with_value number names table =
    option_and_then (λ two. option_and_then (λ three. option_and_then (λ four.
    with_names_at (codes "aliases") number four table)
    (with_name_at (codes "name") number three table))
    (with_name_at (codes "short") number two table))
    (with_name_at (codes "long") number names table)

-- ---- The values of a property

-- The key of an array with names.
abbrev pub array_key : NameArray → List ℕ
array_key Values = codes "values"
array_key Ranges = codes "ranges"

-- The key of a value's number in it.
abbrev pub number_key : NameArray → List ℕ
number_key Values = codes "discr"
number_key Ranges = codes "v"

-- The number at a key, if it is a whole one that fits in 32 bits.
abbrev pub number_at : List ℕ → Members → Option ℕ
number_at key table =
    option_and_then u32_of (option_and_then as_integer (get_member key table))

-- The names, and those of the value that an item of an array is. None if it is no table with a
-- number and texts as names.
abbrev pub with_item : NameArray → List (List ℕ × ℕ) → Data → Option (List (List ℕ × ℕ))
with_item array names d = option_and_then (λ table.
    option_and_then (λ number. with_value number names table)
    (number_at (number_key array) table)) (as_table d)

-- The names of the values that the items of an array are, the first of which has index i; or the
-- first item that is none.
abbrev pub with_items : NameArray → ℕ → List (List ℕ × ℕ) → List Data
    → Result (List (List ℕ × ℕ)) NamesError
with_items array i names [] = Ok names
with_items array i names (d ∷ ds) = and_then (ok_or (with_item array names d) (Item array i))
    (λ more. with_items array (i + 1) more ds)

-- The items of the array at a key of a table.
abbrev pub items_at : List ℕ → Members → Option (List Data)
items_at key table = option_and_then items_in (get_member key table)

-- The names of a property's values: those in `values`, or else those in `ranges`.
abbrev pub names_of : Members → Result (List (List ℕ × ℕ)) NamesError
names_of property = of_values (items_at (codes "values") property) where
  of_ranges : Option (List Data) → Result (List (List ℕ × ℕ)) NamesError
  of_ranges None = Ok []
  of_ranges (Some items) = with_items Ranges 0 [] items

  of_values : Option (List Data) → Result (List (List ℕ × ℕ)) NamesError
  of_values None = of_ranges (items_at (codes "ranges") property)
  of_values (Some items) = with_items Values 0 [] items

-- ---- What functions return

-- The answer of a function that adds names: whether there are names, and if so that they are these.
abbrev pub AreNamesOr : Option (List (List ℕ × ℕ)) → Bool → List (List ℕ × ℕ) → Type 0
AreNamesOr (Some names) is new = (is ≡ true) × (new ≡ names)
AreNamesOr None is new = is ≡ false

-- The error of a reader is its first fault. No clause can say when an allocation fails.
abbrev pub IsWhyNoNames : Result (List (List ℕ × ℕ)) NamesError → NamesError → Type 0
IsWhyNoNames read Memory = ⊤
IsWhyNoNames read fault = read ≡ Err fault
