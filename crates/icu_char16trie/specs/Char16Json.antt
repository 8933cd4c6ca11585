-- How a JSON value encodes the units of a trie: an object whose key `data` or `trie_data` has an
-- array of whole numbers up to 65535.
use Rattle.std.specs.Prelude.{ℕ, List, [], ◌∷◌, Option, Some, None, Result, Err, nat_lt, if◌then◌else◌, option_and_then, map, codes}
use Rattle.std.specs.Option.{ok_or}
use Rattle.serde_json.specs.Data.{Data, null, boolean, number, string, array, object, unsigned, Items, no_items, item, no_members, member}
use Rattle.serde_json.specs.Find.{get, as_number, as_u64}
use Rattle.serde_json.specs.View.{items_of}
use Rattle.icu_zerovec.specs.FirstFault.{read_from}
use Rattle.icu_char16trie.specs.declared.json.Char16JsonError.{Char16JsonError}
use Rattle.icu_char16trie.specs.declared.json.Char16JsonError.TheVariants as errors

-- The unit of an item: a whole number up to 65535, written without a fraction.
abbrev pub unit_of : Data → Option ℕ
unit_of d = option_and_then (λ n. if nat_lt n 0x1_0000 then Some n else None)
    (option_and_then as_u64 (as_number d))

-- The unit of the item at index i, or the error for it.
abbrev pub unit_or : ℕ → Data → Result ℕ Char16JsonError
unit_or i d = ok_or (unit_of d) (errors.Number i)

-- JSON array items as a list.
abbrev pub list_of : Items → List Data
list_of no_items = []
list_of (item d items) = d ∷ list_of items

-- The units of an array, or the error of its first wrong item.
abbrev pub units_in : Data → Result (List ℕ) Char16JsonError
units_in null = Err errors.Shape
units_in (boolean b) = Err errors.Shape
units_in (number n) = Err errors.Shape
units_in (string s) = Err errors.Shape
units_in (array items) = read_from unit_or 0 (list_of items)
units_in (object ms) = Err errors.Shape

-- The units of the one member that is present. Neither or both is an error.
abbrev pub units_in_one : Option Data → Option Data → Result (List ℕ) Char16JsonError
units_in_one None None = Err errors.Shape
units_in_one None (Some d) = units_in d
units_in_one (Some d) None = units_in d
units_in_one (Some d) (Some e) = Err errors.Shape

-- The units that a JSON value encodes, or the error that says why it is no trie.
abbrev pub units_of : Data → Result (List ℕ) Char16JsonError
units_of d = units_in_one (get (codes "data") d) (get (codes "trie_data") d)

-- The JSON object of a trie with these units.
abbrev pub json_of : List ℕ → Data
json_of units = object
    (member (codes "data") (array (items_of (map (λ u. number (unsigned u)) units))) no_members)
