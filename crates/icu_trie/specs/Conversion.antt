-- A trie whose data are read as values of another type.
use Rattle.std.specs.Prelude.{◌≡◌, ℕ, List, Option, Some, None, Result, Ok, Err}
use Rattle.std.specs.Option.{option_and_then, option_map}
use Rattle.icu_zerovec.specs.declared.ule.UleError.{UleError}
use Rattle.icu_zerovec.specs.declared.ule.UleError.TheVariants.{Length, Cell}
use Rattle.icu_trie.specs.Parts.{Parts}
use Rattle.icu_trie_core.specs.declared.header.CodePointTrieHeader.{CodePointTrieHeader}
use Rattle.icu_trie.specs.declared.error.ConvertError.{ConvertError}
use Rattle.icu_trie.specs.declared.error.ConvertError.TheVariants as errors

-- The header with another null value.
abbrev pub with_null_value : CodePointTrieHeader → ℕ → CodePointTrieHeader
with_null_value h number = record {
  high_start = h.high_start;
  shifted12_high_start = h.shifted12_high_start;
  index3_null_offset = h.index3_null_offset;
  data_null_offset = h.data_null_offset;
  null_value = number;
  trie_type = h.trie_type;
}

-- The result of converting trie t, given its converted data and null value. The first bad cell is
-- an error, then a null value that the other type lacks. Otherwise index and header are unchanged,
-- except for the number of the null value.
abbrev pub Becomes : {T P : Type 0} → (P → ℕ) → Parts T → Result (List P) UleError → Option P
    → Result (Parts P) ConvertError → Type 0
Becomes number t (Err Length) null result = ⊥
Becomes number t (Err (Cell i)) null result = result ≡ Err (errors.Cell i)
Becomes number t (Ok values) None result = result ≡ Err errors.ErrorOrNull
Becomes number t (Ok values) (Some p) result =
    result ≡ Ok (record
    { header = with_null_value t.header (number p); index = t.index; values = values })

-- The value of the other type with the same packed bytes, if there is one.
abbrev pub same_packed : {T P : Type 0} → (T → List ℕ) → (List ℕ → Option P) → Option T → Option P
same_packed pack unpack x = option_and_then unpack (option_map pack x)
