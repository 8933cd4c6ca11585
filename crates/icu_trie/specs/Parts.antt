-- The parts of a trie, when they are rejected, and the value of each code point.
use Rattle.std.specs.Prelude.{◌≡◌, ℕ, ◌-◌, nat_lt, Bool, List, length, slice_get, Option, Some, None, is_none, if◌then◌else◌, ⊤}
use Rattle.std.specs.Cmp.Lexicographic.{pointwise}
use Rattle.std.specs.Option.{option_or}
use Rattle.std.specs.Ordering.{on, eq_of_both}
use Rattle.icu_zerovec.specs.Cells.{same_bytes}
use Rattle.icu_zerovec.specs.PackedBytes.{low_bytes}
use Rattle.icu_zerovec.specs.Slice.{slice_values}
use Rattle.icu_zerovec.specs.declared.slice.ZeroSlice.{ZeroSlice}
use Rattle.icu_trie_core.specs.Contents.{Contents, contents_of}
use Rattle.icu_trie_core.specs.declared.header.CodePointTrieHeader.{CodePointTrieHeader}
use Rattle.icu_trie_core.specs.declared.error.CodePointTrieError.{CodePointTrieError}
use Rattle.icu_trie_core.specs.declared.error.CodePointTrieError.TheVariants.{EmptyDataVector, InvalidNullValue, IndexTooShortForFastAccess, DataTooShortForFastAccess}
use Rattle.icu_trie_core.specs.Format.{answer, place_or_last}
use Rattle.icu_trie.specs.declared.error.PartsError.{PartsError}
use Rattle.icu_trie.specs.declared.error.PartsError.TheVariants.{Trie, Memory}
use Rattle.icu_trie_core.specs.FastIndex.{fast_index_len, passes_data}

-- The parts of a trie, which contracts use as its value.
pub record Parts (T : Type 0) : Type 0 where
  pub header : CodePointTrieHeader
  pub index : List ℕ
  pub values : List T

-- The cells of two packed vectors.
abbrev pub cells_in : {T : Type 0} {m : _} {n : _} → ZeroSlice ℕ m → ZeroSlice T n → Contents T
cells_in index values = contents_of (slice_values index) (slice_values values)

-- The error value: the last cell of the data.
abbrev pub last_cell : {T : Type 0} → List T → Option T
last_cell values = slice_get values (length values - 1)

-- The value of a trie at u: the look-up result, or the error value if that is None.
abbrev pub trie_value : {T : Type 0} → Parts T → ℕ → Option T
trie_value t u = option_or (answer t.header (contents_of t.index t.values) u) (last_cell t.values)

-- The position of the data cell of u: of the last cell, the error value, if a cell of the index is
-- missing or u is above 0x10FFFF. It may be outside the data.
abbrev pub place_of : {T : Type 0} → Parts T → ℕ → Option ℕ
place_of t u = place_or_last t.header t.index (length t.values) u

-- The first fault of the parts of a trie, if any. of_number gives the value with a number.
abbrev pub parts_fault : {T : Type 0} → (ℕ → Option T) → CodePointTrieHeader → List ℕ → List T
    → Option CodePointTrieError
parts_fault of_number h index values =
    if nat_lt (length values) 1 then Some EmptyDataVector
    else (if is_none (of_number h.null_value) then Some InvalidNullValue
    else (if nat_lt (length index) (fast_index_len h.trie_type) then Some IndexTooShortForFastAccess
    else (if passes_data h.trie_type index (length values) then Some DataTooShortForFastAccess
    else None)))

-- The reason why copied parts form no trie: their first fault, or a failed allocation.
abbrev pub IsWhyNoTrie : Option CodePointTrieError → PartsError → Type 0
IsWhyNoTrie first (Trie e) = first ≡ Some e
IsWhyNoTrie first Memory = ⊤

-- Equality of tries: equal headers, and equal packed bytes of their indices and of their values.
abbrev pub same_trie : {T : Type 0} → (CodePointTrieHeader → CodePointTrieHeader → Bool)
    → (T → List ℕ) → Parts T → Parts T → Bool
same_trie {T} same_header pack =
    eq_of_both (on (λ (t : Parts T). t.header) same_header)
    (eq_of_both (on (λ (t : Parts T). t.index) (pointwise (same_bytes (low_bytes 2))))
    (on (λ (t : Parts T). t.values) (pointwise (same_bytes pack))))
