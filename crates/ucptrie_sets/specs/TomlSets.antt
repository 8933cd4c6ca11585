-- The set of a property in a TOML file of ICU's icuexportdata.
use Rattle.std.specs.Prelude.{◌≡◌, ℕ, ◌+◌, ◌<◌, ◌^◌, ℤ, pos, negsuc, nat_eq, nat_lt, ◌||◌, Bool, true, false, List, [], ◌∷◌, codes, length, Option, Some, None, Result, Ok, Err, if◌then◌else◌, option_and_then, option_map, ⊤}
use Rattle.std.specs.Cmp.Lexicographic.{pointwise}
use Rattle.std.specs.List.{filter}
use Rattle.std.specs.Option.{ok_or, option_map_or}
use Rattle.toml.specs.Data.{Data, Items, no_items, item, Members, as_array, as_integer, as_str, as_table, get_member}
use Rattle.toml.specs.Parse.{parse_document}
use Rattle.icu_zerovec.specs.CodePoints.{code_point_limit}
use Rattle.icu_zerovec.specs.FirstFault.{and_then, read_from}
use Rattle.icu_invlist.specs.InversionList.{between, holds}
use Rattle.icu_trie_core.specs.ValueNumbers.{fitting}
use Rattle.ucptrie_sets.specs.declared.error.SetFileError.{SetFileError}
use Rattle.ucptrie_sets.specs.declared.error.SetFileError.TheVariants.{NotToml, NoSets, Missing, Several, NoRanges, NotAPair, Reversed, Memory}

-- ---- Ranges

-- A whole number that fits in 32 bits.
abbrev pub u32_of : ℤ → Option ℕ
u32_of (pos n) = fitting (2 ^ 32) n
u32_of (negsuc n) = None

-- The code point that a value is: a whole number up to 0x10FFFF.
abbrev pub code_point_of : Data → Option ℕ
code_point_of d =
    option_and_then (fitting code_point_limit) (option_and_then u32_of (as_integer d))

-- Both of two code points.
abbrev pub two_of : Option ℕ → Option ℕ → Option (ℕ × ℕ)
two_of (Some start) (Some end) = Some (start, end)
two_of (Some start) None = None
two_of None end = None

-- The code points of an array of exactly two.
abbrev pub pair_in : List Data → Option (ℕ × ℕ)
pair_in (start ∷ end ∷ []) = two_of (code_point_of start) (code_point_of end)
pair_in _ = None

-- TOML's items as a list.
abbrev pub list_of : Items → List Data
list_of no_items = []
list_of (item d items) = d ∷ list_of items

-- The items of an array.
abbrev pub items_in : Data → Option (List Data)
items_in d = option_map list_of (as_array d)

-- The inclusive bounds of a range, if it is one and not reversed. `i` is the item's index.
abbrev pub range_or : ℕ → Option (ℕ × ℕ) → Result (ℕ × ℕ) SetFileError
range_or i None = Err (NotAPair i)
range_or i (Some r) = if nat_lt r.1 r.0 then Err (Reversed i) else Ok r

-- The inclusive bounds of the range that item i is, or its fault.
abbrev pub range_of : ℕ → Data → Result (ℕ × ℕ) SetFileError
range_of i d = range_or i (option_and_then pair_in (items_in d))

-- The ranges that the items are, or the first fault.
abbrev pub ranges_in : List Data → Result (List (ℕ × ℕ)) SetFileError
ranges_in items = read_from range_of 0 items

-- One of the ranges contains the code point.
abbrev pub is_listed : List (ℕ × ℕ) → ℕ → Bool
is_listed [] c = false
is_listed (r ∷ rs) c = between r.0 (r.1 + 1) c || is_listed rs c

-- The set has exactly the code points of the ranges.
abbrev pub IsSetOfRanges : List (ℕ × ℕ) → List ℕ → Type 0
IsSetOfRanges ranges set =
    (c : ℕ) → c < code_point_limit → holds set c ≡ is_listed ranges c

-- ---- The property

-- The value is this text.
abbrev pub is_text : List ℕ → Option (List ℕ) → Bool
is_text text None = false
is_text text (Some found) = pointwise nat_eq found text

-- The member of the table at the key is this text.
abbrev pub has_text : List ℕ → List ℕ → Members → Bool
has_text key text table = is_text text (option_and_then as_str (get_member key table))

-- The table has this long or short name.
abbrev pub is_named : List ℕ → Option Members → Bool
is_named name None = false
is_named name (Some table) =
    has_text (codes "long_name") name table || has_text (codes "short_name") name table

-- The property is asked for: it has the name, or none is asked.
abbrev pub is_asked : Option (List ℕ) → Data → Bool
is_asked None property = true
is_asked (Some name) property = is_named name (as_table property)

-- The only one of the properties, or the fault.
abbrev pub only_one : List Data → Result Data SetFileError
only_one [] = Err Missing
only_one (d ∷ []) = Ok d
only_one (d ∷ e ∷ ds) = Err Several

-- The only one of the properties that is asked for.
abbrev pub asked_among : Option (List ℕ) → List Data → Result Data SetFileError
asked_among name properties = only_one (filter (is_asked name) properties)

-- The items of the array at a key of a table.
abbrev pub items_at : List ℕ → Members → Option (List Data)
items_at key table = option_and_then items_in (get_member key table)

-- The items of the array `ranges` of a property.
abbrev pub ranges_of : Data → Option (List Data)
ranges_of property = option_and_then (items_at (codes "ranges")) (as_table property)

-- The ranges of the property that is asked for in a file, or the first fault.
abbrev pub file_ranges : Option (List ℕ) → Members → Result (List (ℕ × ℕ)) SetFileError
file_ranges name file =
    and_then (ok_or (items_at (codes "binary_property") file) NoSets) (λ properties.
    and_then (asked_among name properties) (λ property.
    and_then (ok_or (ranges_of property) NoRanges) ranges_in))

-- ---- Strings

-- How many items the array `strings` of a property has: 0 if it has no such array.
abbrev pub strings_in : Data → ℕ
strings_in property =
    option_map_or length (option_and_then (items_at (codes "strings")) (as_table property)) 0

-- The same for the property that is asked for, if it is the only one.
abbrev pub strings_of_asked : Result Data SetFileError → ℕ
strings_of_asked (Ok property) = strings_in property
strings_of_asked (Err fault) = 0

-- How many strings the property that is asked for has in a file.
abbrev pub strings_of_file : Option (List ℕ) → Members → ℕ
strings_of_file name file =
    option_map_or (λ properties. strings_of_asked (asked_among name properties))
    (items_at (codes "binary_property") file) 0

-- ---- The file

-- The text is a TOML file, in which the property that is asked for has the code points of the set.
pub record IsSetOfFile (text : List ℕ) (name : Option (List ℕ)) (set : List ℕ) : Type 0 where
  pub file : Members
  pub reads : parse_document text ≡ Some file
  pub ranges : List (ℕ × ℕ)
  pub listed : file_ranges name file ≡ Ok ranges
  pub members : IsSetOfRanges ranges set

-- The error of a reader is the fault of what it read. No clause can say when an allocation fails.
abbrev pub IsRefused : {A : Type 0} → Result A SetFileError → SetFileError → Type 0
IsRefused read Memory = ⊤
IsRefused read fault = read ≡ Err fault

-- Why a text has no set: it is not TOML, or its first fault.
abbrev pub IsWhyNoSetInFile : List ℕ → Option (List ℕ) → SetFileError → Type 0
IsWhyNoSetInFile text name NotToml = parse_document text ≡ None
IsWhyNoSetInFile text name Memory = ⊤
IsWhyNoSetInFile text name fault =
    (file : Members) × (parse_document text ≡ Some file) × (file_ranges name file ≡ Err fault)
