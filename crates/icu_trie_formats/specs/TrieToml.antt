-- A trie in TOML as ICU4C exports it: the contents of a table, its first error, and the trie in it.
use Rattle.std.specs.Prelude.{◌≡◌, ℕ, ◌^◌, ℤ, pos, negsuc, List, [], ◌∷◌, codes, Option, Some, None, Result, Ok, Err, nat_lt, if◌then◌else◌, option_and_then, option_map}
use Rattle.std.specs.Option.{ok_or, option_or}
use Rattle.toml.specs.Data.{Data, Items, no_items, item, Members, as_integer, as_array, get_member}
use Rattle.icu_trie_core.specs.ValueNumbers.{fitting, type_number, GivesType}
use Rattle.icu_trie.specs.Parts.{Parts}
use Rattle.icu_trie_core.specs.declared.header.TrieType.{TrieType}
use Rattle.icu_trie_core.specs.declared.header.TrieType.TheVariants.{Fast, Small}
use Rattle.icu_trie_core.specs.declared.header.CodePointTrieHeader.{CodePointTrieHeader}
use Rattle.icu_trie_core.specs.declared.error.CodePointTrieError.{CodePointTrieError}
use Rattle.icu_trie_core.specs.declared.error.CodePointTrieError.TheVariants.{FromDeserialized}
use Rattle.icu_zerovec.specs.FirstFault.{and_then, read_from}
use Rattle.icu_trie_formats.specs.TrieOfParts.{trie_of_parts}
use Rattle.icu_trie_formats.specs.declared.trie_toml.TomlError.{TomlError}
use Rattle.icu_trie_formats.specs.declared.trie_toml.TomlError.TheVariants.{Missing, OutOfRange, Memory}
use Rattle.icu_trie_formats.specs.declared.trie_toml.TomlFields.{TomlFields}
use Rattle.icu_trie_formats.specs.declared.trie_toml.TrieFromTomlError.{TrieFromTomlError}
use Rattle.icu_trie_formats.specs.declared.trie_toml.TrieFromTomlError.TheVariants as refusals
use Rattle.icu_trie_formats.specs.declared.trie_toml.CodePointDataSlice.{CodePointDataSlice}
use Rattle.icu_trie_formats.specs.declared.trie_toml.CodePointDataSlice.TheVariants.{U8, U16, U32}

-- ---- how a table is read
--
-- The errors of a table: a required key is missing, or its value is of another kind or out of
-- range.
pub data TomlFault : Type 0 where
  missing : List ℕ → TomlFault
  out_of_range : List ℕ → TomlFault

-- The contents of a table with a trie.
pub record TomlParts : Type 0 where
  pub index : List ℕ
  pub data_8 : Option (List ℕ)
  pub data_16 : Option (List ℕ)
  pub data_32 : Option (List ℕ)
  pub fields : TomlFields

-- A whole number that fits in 32 bits.
abbrev pub u32_of : ℤ → Option ℕ
u32_of (pos n) = if nat_lt n (2 ^ 32) then Some n else None
u32_of (negsuc n) = None

-- The number of a value, if it is a whole number in this range.
abbrev pub number_of : {T : Type 0} → (ℕ → Option T) → Data → Option T
number_of range d = option_and_then range (option_and_then u32_of (as_integer d))

-- The number of a value, if it is a whole number in this range, or the error for the key.
abbrev pub number_or : {T : Type 0} → (ℕ → Option T) → List ℕ → Data → Result T TomlFault
number_or range key d = ok_or (number_of range d) (out_of_range key)

-- The numbers of the items of the array at the key.
abbrev pub numbers_of : {T : Type 0} → (ℕ → Option T) → List ℕ → List Data
    → Result (List T) TomlFault
numbers_of range key items = read_from (λ _ d. number_or range key d) 0 items

-- TOML array items as a list.
abbrev pub list_of : Items → List Data
list_of no_items = []
list_of (item d items) = d ∷ list_of items

-- The items of an array.
abbrev pub items_in : Data → Option (List Data)
items_in d = option_map list_of (as_array d)

-- The number at a required key.
abbrev pub number_at : {T : Type 0} → (ℕ → Option T) → List ℕ → Members → Result T TomlFault
number_at range key table =
    and_then (ok_or (get_member key table) (missing key)) (number_or range key)

-- The numbers of an array.
abbrev pub numbers_in : {T : Type 0} → (ℕ → Option T) → List ℕ → Data → Result (List T) TomlFault
numbers_in range key d = and_then (ok_or (items_in d) (out_of_range key)) (numbers_of range key)

-- The numbers of an array, if there is one.
abbrev pub numbers_if : {T : Type 0} → (ℕ → Option T) → List ℕ → Option Data
    → Result (Option (List T)) TomlFault
numbers_if range key None = Ok None
numbers_if range key (Some d) = and_then (numbers_in range key d) (λ ns. Ok (Some ns))

-- The numbers of the array at an optional key.
abbrev pub optional_numbers_at : {T : Type 0} → (ℕ → Option T) → List ℕ → Members
    → Result (Option (List T)) TomlFault
optional_numbers_at range key table = numbers_if range key (get_member key table)

-- The numbers of the array at a required key.
abbrev pub numbers_at : {T : Type 0} → (ℕ → Option T) → List ℕ → Members → Result (List T) TomlFault
numbers_at range key table =
    and_then (optional_numbers_at range key table) (λ o. ok_or o (missing key))

-- The numbers besides the arrays, or the first error in the order of the keys.
abbrev pub fields_of : Members → Result TomlFields TomlFault
fields_of table =
    and_then (number_at (fitting (2 ^ 32)) (codes "highStart") table) (λ high_start.
    and_then (number_at (fitting (2 ^ 16)) (codes "shifted12HighStart") table)
    (λ shifted12_high_start.
    and_then (number_at (fitting (2 ^ 8)) (codes "type") table) (λ trie_type.
    and_then (number_at (fitting (2 ^ 8)) (codes "valueWidth") table) (λ value_width.
    and_then (number_at (fitting (2 ^ 16)) (codes "index3NullOffset") table) (λ index3_null_offset.
    and_then (number_at (fitting (2 ^ 32)) (codes "dataNullOffset") table) (λ data_null_offset.
    and_then (number_at (fitting (2 ^ 32)) (codes "nullValue") table) (λ null_value.
    Ok (record {
      high_start = high_start;
      shifted12_high_start = shifted12_high_start;
      trie_type = trie_type;
      value_width = value_width;
      index3_null_offset = index3_null_offset;
      data_null_offset = data_null_offset;
      null_value = null_value;
    }))))))))

-- The contents of a table, or its first error in the order of the keys.
abbrev pub toml_of : Members → Result TomlParts TomlFault
toml_of table =
    and_then (numbers_at (fitting (2 ^ 16)) (codes "index") table) (λ index.
    and_then (optional_numbers_at (fitting (2 ^ 8)) (codes "data_8") table) (λ data_8.
    and_then (optional_numbers_at (fitting (2 ^ 16)) (codes "data_16") table) (λ data_16.
    and_then (optional_numbers_at (fitting (2 ^ 32)) (codes "data_32") table) (λ data_32.
    and_then (fields_of table) (λ fields.
    Ok (record {
      index = index;
      data_8 = data_8;
      data_16 = data_16;
      data_32 = data_32;
      fields = fields;
    }))))))

-- The returned error is the first one. `Memory` may be returned instead of any result.
abbrev pub IsRefused : {A : Type 0} → Result A TomlFault → TomlError → Type 0
IsRefused r (Missing key) = r ≡ Err (missing key.now)
IsRefused r (OutOfRange key) = r ≡ Err (out_of_range key.now)
IsRefused r Memory = Unit {0}

-- ---- the trie
--
-- The data are the first array in the table.
abbrev pub GivesData : TomlParts → Result CodePointDataSlice CodePointTrieError → Type 0
GivesData t (Ok (U8 cells)) = t.data_8 ≡ Some cells.now
GivesData t (Ok (U16 cells)) = (t.data_8 ≡ None) × (t.data_16 ≡ Some cells.now)
GivesData t (Ok (U32 cells)) = (t.data_8 ≡ None) × (t.data_16 ≡ None) × (t.data_32 ≡ Some cells.now)
GivesData t (Err (FromDeserialized reason)) =
    (t.data_8 ≡ None) × (t.data_16 ≡ None) × (t.data_32 ≡ None)
    × (reason.now ≡ codes "Did not find data array for CodePointTrie in TOML")
GivesData t (Err _) = ⊥

-- The header with these fields and this type.
abbrev pub header_with : TomlFields → TrieType → CodePointTrieHeader
header_with f kind = record {
  high_start = f.high_start;
  shifted12_high_start = f.shifted12_high_start;
  index3_null_offset = f.index3_null_offset;
  data_null_offset = f.data_null_offset;
  null_value = f.null_value;
  trie_type = kind;
}

-- The header has the fields of the table and the type with the table's number. Another number is an
-- error.
abbrev pub GivesHeader : TomlParts → Result CodePointTrieHeader CodePointTrieError → Type 0
GivesHeader t (Ok h) =
    (h ≡ header_with t.fields h.trie_type) × (t.fields.trie_type ≡ type_number h.trie_type)
GivesHeader t (Err e) = GivesType t.fields.trie_type (Err e)

-- Why the contents of a table are not a trie: an error in the table, or an error of the parts.
pub data TrieFault : Type 0 where
  unread : List ℕ → TrieFault
  of_parts : CodePointTrieError → TrieFault

-- The type with this number.
abbrev pub type_of : ℕ → Result TrieType TrieFault
type_of n =
    if nat_lt n 1 then Ok Fast
    else (if nat_lt n 2 then Ok Small else Err (unread (codes "Cannot parse value for trie_type")))

-- The data of a table.
abbrev pub data_of : TomlParts → Result (List ℕ) TrieFault
data_of t =
    ok_or (option_or t.data_8 (option_or t.data_16 t.data_32))
    (unread (codes "Did not find data array for CodePointTrie in TOML"))

-- The value with this number.
abbrev pub value_of : {T : Type 0} → (ℕ → Option T) → ℕ → Result T TrieFault
value_of of_number n =
    ok_or (of_number n) (unread (codes "Could not parse data array to typed array"))

-- The values with these numbers.
abbrev pub values_of : {T : Type 0} → (ℕ → Option T) → List ℕ → Result (List T) TrieFault
values_of of_number ns = read_from (λ _ n. value_of of_number n) 0 ns

-- The values of the data of a table.
abbrev pub typed_data : {T : Type 0} → (ℕ → Option T) → TomlParts → Result (List T) TrieFault
typed_data of_number t = and_then (data_of t) (values_of of_number)

-- The trie of these parts, or their first error.
abbrev pub trie_with : {T : Type 0} → (ℕ → Option T) → CodePointTrieHeader → List ℕ → List T
    → Result (Parts T) TrieFault
trie_with of_number h index values = trie_of_parts of_parts of_number h index values

-- The trie of a table, or the first error: of its type, of its data, of a value, of the parts.
abbrev pub trie_of : {T : Type 0} → (ℕ → Option T) → TomlParts → Result (Parts T) TrieFault
trie_of of_number t =
    and_then (type_of t.fields.trie_type) (λ kind.
    and_then (typed_data of_number t) (λ values.
    trie_with of_number (header_with t.fields kind) t.index values))

-- The returned error is the first one. `Memory` may be returned instead of any result.
abbrev pub IsRefusedTrie : {A : Type 0} → Result A TrieFault → TrieFromTomlError → Type 0
IsRefusedTrie r (refusals.Trie (FromDeserialized reason)) = r ≡ Err (unread reason.now)
IsRefusedTrie r (refusals.Trie e) = r ≡ Err (of_parts e)
IsRefusedTrie r (refusals.Table _) = ⊥
IsRefusedTrie r refusals.Memory = Unit {0}

-- A table error as an error of the conversion. `Memory` stays `Memory`.
abbrev pub table_refusal : TomlError → TrieFromTomlError
table_refusal (Missing key) = refusals.Table (Missing key)
table_refusal (OutOfRange key) = refusals.Table (OutOfRange key)
table_refusal Memory = refusals.Memory

-- The contract of the conversion to a trie.
abbrev pub GivesTrie : {T : Type 0} → (ℕ → Option T) → TomlParts
    → Result (Parts T) TrieFromTomlError → Type 0
GivesTrie of_number t (Ok trie) = trie_of of_number t ≡ Ok trie
GivesTrie of_number t (Err e) = IsRefusedTrie (trie_of of_number t) e
