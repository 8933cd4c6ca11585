-- A trie in JSON: an object with a header, an index and data.
use Rattle.std.specs.Prelude.{◌≡◌, ℕ, ◌^◌, List, [], ◌∷◌, codes, map, Option, Some, None, is_some, bytes_eq, option_map, Result, Ok, Err, nat_lt, if◌then◌else◌, option_and_then}
use Rattle.std.specs.Option.{ok_or}
use Rattle.serde_json.specs.Data.{Data, object, array, number, string, unsigned, Items, no_items, item, no_members, member}
use Rattle.serde_json.specs.Find.{get, as_object, as_array, as_number, as_str, as_u64}
use Rattle.serde_json.specs.View.{items_of}
use Rattle.icu_trie_core.specs.ValueNumbers.{fitting}
use Rattle.icu_trie.specs.Parts.{Parts}
use Rattle.icu_trie_core.specs.declared.header.TrieType.{TrieType}
use Rattle.icu_trie_core.specs.declared.header.TrieType.TheVariants.{Fast, Small}
use Rattle.icu_trie_core.specs.declared.header.CodePointTrieHeader.{CodePointTrieHeader}
use Rattle.icu_trie_core.specs.declared.error.CodePointTrieError.{CodePointTrieError}
use Rattle.icu_zerovec.specs.FirstFault.{and_then, read_from}
use Rattle.icu_trie_formats.specs.TrieOfParts.{trie_of_parts}
use Rattle.icu_trie_formats.specs.declared.json.TrieJsonError.{TrieJsonError}
use Rattle.icu_trie_formats.specs.declared.json.TrieJsonError.TheVariants.{Shape, Number, Value, Trie, Memory}

-- ---- how a value is read
--
-- The errors of a value: a key is missing or its member is of another kind; a number is not in its
-- range; a data cell is not the number of a value; the parts do not form a trie.
pub data JsonFault : Type 0 where
  shape : List ℕ → JsonFault
  no_number : List ℕ → JsonFault
  no_value : ℕ → JsonFault
  of_parts : CodePointTrieError → JsonFault

-- A number that fits in 32 bits.
abbrev pub u32_of : ℕ → Option ℕ
u32_of n = if nat_lt n (2 ^ 32) then Some n else None

-- The whole number of a value, written without a fraction, if it fits in 32 bits.
abbrev pub number_of : Data → Option ℕ
number_of d = option_and_then u32_of (option_and_then as_u64 (as_number d))

-- The number of a value, if it is in this range, or the error for the key.
abbrev pub number_or : {T : Type 0} → (ℕ → Option T) → List ℕ → Data → Result T JsonFault
number_or range key d = ok_or (option_and_then range (number_of d)) (no_number key)

-- The member at a key.
abbrev pub member_at : List ℕ → Data → Result Data JsonFault
member_at key d = ok_or (get key d) (shape key)

-- The same value, if it is an object.
abbrev pub object_or : List ℕ → Data → Result Data JsonFault
object_or key d = if is_some (as_object d) then Ok d else Err (shape key)

-- The number at a key.
abbrev pub number_at : {T : Type 0} → (ℕ → Option T) → List ℕ → Data → Result T JsonFault
number_at range key d = and_then (member_at key d) (number_or range key)

-- The type with this name.
abbrev pub type_named : List ℕ → Option TrieType
type_named name =
    if bytes_eq name (codes "Fast") then Some Fast
    else (if bytes_eq name (codes "Small") then Some Small else None)

-- The type at its key.
abbrev pub type_at : Data → Result TrieType JsonFault
type_at d =
    and_then (member_at (codes "trie_type") d) (λ t.
    ok_or (option_and_then type_named (as_str t)) (shape (codes "trie_type")))

-- The header that an object encodes, or its first error.
abbrev pub header_of : Data → Result CodePointTrieHeader JsonFault
header_of d =
    and_then (number_at (fitting (2 ^ 32)) (codes "high_start") d) (λ high_start.
    and_then (number_at (fitting (2 ^ 16)) (codes "shifted12_high_start") d)
    (λ shifted12_high_start.
    and_then (number_at (fitting (2 ^ 16)) (codes "index3_null_offset") d) (λ index3_null_offset.
    and_then (number_at (fitting (2 ^ 32)) (codes "data_null_offset") d) (λ data_null_offset.
    and_then (number_at (fitting (2 ^ 32)) (codes "null_value") d) (λ null_value.
    and_then (type_at d) (λ trie_type.
    Ok (record {
      high_start = high_start;
      shifted12_high_start = shifted12_high_start;
      index3_null_offset = index3_null_offset;
      data_null_offset = data_null_offset;
      null_value = null_value;
      trie_type = trie_type;
    })))))))

-- The header at its key.
abbrev pub header_at : Data → Result CodePointTrieHeader JsonFault
header_at d = and_then (member_at (codes "header") d)
    (λ h. and_then (object_or (codes "header") h) header_of)

-- JSON array items as a list.
abbrev pub list_of : Items → List Data
list_of no_items = []
list_of (item d items) = d ∷ list_of items

-- The items of an array.
abbrev pub items_in : Data → Option (List Data)
items_in d = option_map list_of (as_array d)

-- The items of the array at a key.
abbrev pub items_at : List ℕ → Data → Result (List Data) JsonFault
items_at key d = and_then (member_at key d) (λ a. ok_or (items_in a) (shape key))

-- The cells of the index.
abbrev pub cells_of : List Data → Result (List ℕ) JsonFault
cells_of items = read_from (λ _ d. number_or (fitting (2 ^ 16)) (codes "index") d) 0 items

-- The value of the data cell at index i.
abbrev pub value_of : {T : Type 0} → (ℕ → Option T) → ℕ → Data → Result T JsonFault
value_of of_number i d =
    and_then (ok_or (number_of d) (no_number (codes "data")))
    (λ n. ok_or (of_number n) (no_value i))

-- The values of the data.
abbrev pub values_of : {T : Type 0} → (ℕ → Option T) → List Data → Result (List T) JsonFault
values_of of_number items = read_from (value_of of_number) 0 items

-- The trie of these parts, or their first error.
abbrev pub trie_with : {T : Type 0} → (ℕ → Option T) → CodePointTrieHeader → List ℕ → List T
    → Result (Parts T) JsonFault
trie_with of_number h index values = trie_of_parts of_parts of_number h index values

-- The trie that an object encodes, or its first error: in the header, in the index, in the data, of
-- the parts.
abbrev pub trie_in : {T : Type 0} → (ℕ → Option T) → Data → Result (Parts T) JsonFault
trie_in of_number d =
    and_then (header_at d) (λ h.
    and_then (and_then (items_at (codes "index") d) cells_of) (λ index.
    and_then (and_then (items_at (codes "data") d) (values_of of_number)) (λ values.
    trie_with of_number h index values)))

-- The trie that a value encodes, or its first error.
abbrev pub trie_of_json : {T : Type 0} → (ℕ → Option T) → Data → Result (Parts T) JsonFault
trie_of_json of_number d = and_then (object_or [] d) (trie_in of_number)

-- The returned error is the first one. `Memory` may be returned instead of any result.
abbrev pub IsRefusedJson : {A : Type 0} → Result A JsonFault → TrieJsonError → Type 0
IsRefusedJson r (Shape key) = r ≡ Err (shape key.now)
IsRefusedJson r (Number key) = r ≡ Err (no_number key.now)
IsRefusedJson r (Value i) = r ≡ Err (no_value i)
IsRefusedJson r (Trie e) = r ≡ Err (of_parts e)
IsRefusedJson r Memory = Unit {0}

-- ---- how a trie is written
--
-- The name of a type.
abbrev pub type_name : TrieType → List ℕ
type_name Fast = codes "Fast"
type_name Small = codes "Small"

-- A header as JSON.
abbrev pub header_json : CodePointTrieHeader → Data
header_json h = object (member (codes "data_null_offset") (number (unsigned h.data_null_offset))
    (member (codes "high_start") (number (unsigned h.high_start))
    (member (codes "index3_null_offset") (number (unsigned h.index3_null_offset))
    (member (codes "null_value") (number (unsigned h.null_value))
    (member (codes "shifted12_high_start") (number (unsigned h.shifted12_high_start))
    (member (codes "trie_type") (string (type_name h.trie_type)) no_members))))))

-- Numbers as JSON.
abbrev pub numbers_json : List ℕ → Data
numbers_json ns = array (items_of (map (λ n. number (unsigned n)) ns))

-- The object of a header, an index and data. The keys of an object ascend.
abbrev pub trie_object : Data → Data → Data → Data
trie_object header index values =
    object (member (codes "data") values
    (member (codes "header") header (member (codes "index") index no_members)))

-- A trie as JSON. number_of_value is the number of a value.
abbrev pub json_of : {T : Type 0} → (T → ℕ) → Parts T → Data
json_of number_of_value t =
    trie_object (header_json t.header) (numbers_json t.index)
    (numbers_json (map number_of_value t.values))
