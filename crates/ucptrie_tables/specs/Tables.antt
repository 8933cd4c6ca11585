-- Tables made from rows, their bytes in ICU's binary form, and the errors of both steps.
use Rattle.std.specs.Prelude.{◌≡◌, ◌⊎◌, Bool, true, false, ℕ, ◌^◌, ◌<◌, ◌≤◌, List, ◌∷◌, ◌++◌, Option, Some, None, All, ⊤}
use Rattle.std.specs.Option.{option_to_list}
use Rattle.icu_zerovec.specs.CodePoints.{code_point_limit}
use Rattle.icu_zerovec.specs.PackedBytes.{low_bytes}
use Rattle.icu_trie_core.specs.ValueNumbers.{fitting}
use Rattle.icu_trie.specs.Parts.{Parts, last_cell}
use Rattle.icu_trie_binary.specs.WrittenTrie.{binary_of, why_not_written}
use Rattle.icu_trie_binary.specs.declared.error.WriteError.{WriteError}
use Rattle.icu_trie_binary.specs.declared.error.WriteError.TheVariants.{Memory as WriteMemory}
use Rattle.icu_trie_builder.specs.Bounds.{IsTooLarge}
use Rattle.icu_trie_builder.specs.Built.{IsWellBuilt}
use Rattle.icu_trie_builder.specs.MapAnswers.{AnswersMap}
use Rattle.icu_trie_builder.specs.NullBlock.{HasDefaultNull}
use Rattle.icu_trie_builder.specs.Writes.{value_after}
use Rattle.icu_trie_builder.specs.declared.writes.Write.{Write}
use Rattle.ucptab_table.specs.TableText.{AreRows, IsFirstFault, IsTooLargeInput}
use Rattle.ucptab_table.specs.declared.error.TableError.TheVariants.{Row, TooLarge, Memory}
use Rattle.ucptrie_tables.specs.ValueWidth.{bits_of, bytes_of, first_wider}
use Rattle.ucptrie_tables.specs.declared.error.TableBuildError.{TableBuildError}
use Rattle.ucptrie_tables.specs.declared.error.TableBuildError.TheVariants.{Table as TableFailed, Width, Binary}
use Rattle.ucptrie_tables.specs.declared.table.Table.{Table}
use Rattle.ucptrie_tables.specs.declared.table.TableOptions.{TableOptions}
use Rattle.ucptrie_tables.specs.declared.width.ValueWidth.{ValueWidth}
use Rattle.ucptrie_tables.specs.declared.width.ValueWidth.TheVariants.{Bits8, Bits16, Bits32}
use Rattle.ucptrie_tables.specs.declared.form.Form.{Form}
use Rattle.ucptrie_tables.specs.declared.form.Form.TheVariants.{Bks, Icu}

-- ---- The table of writes

-- The trie is that of the writes and the options. A code point has the value of the last write that
-- covers it, or the default if none does. A number above the code space has the error value. The
-- trie is of the requested type and well built. Its null value is that of the null block, or the
-- default if there is none.
pub record IsTrieOfWrites (writes : List (Write ℕ)) (options : TableOptions) (trie : Parts ℕ)
    : Type 0 where
  pub answers : AnswersMap (value_after writes options.default) options.error trie
  pub built : IsWellBuilt (fitting (2 ^ 32)) (value_after writes options.default) trie
  pub trie_type : trie.header.trie_type ≡ options.trie_type
  pub null_value : HasDefaultNull options.default trie.header (value_after writes options.default)

-- The table's trie is that of the writes and the options, its width is the requested one, and none
-- of its values has more bits.
pub record IsTableOfWrites (writes : List (Write ℕ)) (options : TableOptions) (t : Table) : Type 0
  where
    pub trie : IsTrieOfWrites writes options t.trie
    pub width : t.width ≡ options.width
    pub fits : All (λ v. v < 2 ^ bits_of t.width) t.trie.values

-- The value is that of a code point, or the error value.
abbrev pub IsValueOfMap : (ℕ → ℕ) → ℕ → ℕ → Type 0
IsValueOfMap f error value =
    ((c : ℕ) × (c < code_point_limit) × (value ≡ f c)) ⊎ (value ≡ error)

-- The width is the requested one, and `value` has more bits. It is the value of a code point or the
-- error value, and the first wider value in the data of a trie of the writes.
pub record IsTooWideForWrites (writes : List (Write ℕ)) (options : TableOptions) (value : ℕ)
    (width : ValueWidth) : Type 0 where
  pub trie : Parts ℕ
  pub of_writes : IsTrieOfWrites writes options trie
  pub asked : width ≡ options.width
  pub first : first_wider width trie.values ≡ Some value
  pub wide : 2 ^ bits_of width ≤ value
  pub source : IsValueOfMap (value_after writes options.default) options.error value

-- Why writes make no table: they make too many different blocks for a trie, or a value has more
-- bits than the requested width. No clause can say when an allocation fails.
abbrev pub IsWhyNoTableOfWrites : List (Write ℕ) → TableOptions → TableBuildError → Type 0
IsWhyNoTableOfWrites writes options (TableFailed TooLarge) =
    IsTooLarge (value_after writes options.default)
IsWhyNoTableOfWrites writes options (TableFailed Memory) = ⊤
IsWhyNoTableOfWrites writes options (TableFailed _) = ⊥
IsWhyNoTableOfWrites writes options (Width value width) =
    IsTooWideForWrites writes options value width
IsWhyNoTableOfWrites writes options (Binary why) = ⊥

-- ---- The table of rows

-- No line of the input has a fault, and the trie is that of its rows and the options. A code point
-- has the value of the last row that covers it, or the default if none does.
pub record IsTrieOfRows (input : List ℕ) (options : TableOptions) (trie : Parts ℕ) : Type 0 where
  pub writes : List (Write ℕ)
  pub rows : AreRows input writes
  pub of_writes : IsTrieOfWrites writes options trie

-- The table's trie is that of the input's rows and the options, its width is the requested one,
-- and none of its values has more bits.
pub record IsTableOf (input : List ℕ) (options : TableOptions) (t : Table) : Type 0 where
  pub trie : IsTrieOfRows input options t.trie
  pub width : t.width ≡ options.width
  pub fits : All (λ v. v < 2 ^ bits_of t.width) t.trie.values

-- The width is the requested one, and `value` has more bits. It is the value of a code point or the
-- error value, and the first wider value in the data of a trie of the rows.
pub record IsTooWide (input : List ℕ) (options : TableOptions) (value : ℕ) (width : ValueWidth)
    : Type 0 where
  pub trie : Parts ℕ
  pub of_rows : IsTrieOfRows input options trie
  pub asked : width ≡ options.width
  pub first : first_wider width trie.values ≡ Some value
  pub wide : 2 ^ bits_of width ≤ value
  pub source : IsValueOfMap (value_after of_rows.writes options.default) options.error value

-- Why an input makes no table: a line has a fault, and no line before it has one; the rows make
-- too many different blocks for a trie; or a value has more bits than the requested width. No
-- clause can say when an allocation fails.
abbrev pub IsWhyNoTable : List ℕ → TableOptions → TableBuildError → Type 0
IsWhyNoTable input options (TableFailed (Row k f)) = IsFirstFault input k f
IsWhyNoTable input options (TableFailed TooLarge) = IsTooLargeInput options.default input
IsWhyNoTable input options (TableFailed Memory) = ⊤
IsWhyNoTable input options (TableFailed _) = ⊥
IsWhyNoTable input options (Width value width) = IsTooWide input options value width
IsWhyNoTable input options (Binary why) = ⊥

-- ---- The binary form of a table

-- The bytes of a table in ICU's binary form, with values of its width.
abbrev pub binary_bytes : Table → List ℕ
binary_bytes t = binary_of (bytes_of t.width) (λ n. n) (low_bytes (bytes_of t.width)) t.trie

-- The values of a trie in the order in which they are narrowed: the error value, the null value,
-- and each cell of the data.
abbrev pub values_in_turn : Parts ℕ → List ℕ
values_in_turn t = option_to_list (last_cell t.values) ++ (t.header.null_value ∷ t.values)

-- The first of these that has more bits than the width, if one has. Every value has 32 bits or
-- less.
abbrev pub first_unfit : ValueWidth → Parts ℕ → Option ℕ
first_unfit Bits8 t = first_wider Bits8 (values_in_turn t)
first_unfit Bits16 t = first_wider Bits16 (values_in_turn t)
first_unfit Bits32 t = None

-- No value has more bits than the table's width, and the binary form has room for the trie.
pub record HasBinaryForm (t : Table) : Type 0 where
  pub fits : first_unfit t.width t.trie ≡ None
  pub room : why_not_written (bytes_of t.width) (λ n. n) t.trie ≡ None

-- The forms that have the bytes of the binary form: this form itself, and C for bekstaudi.h.
abbrev pub has_binary : Form → Bool
has_binary Icu = true
has_binary (Bks name) = true
has_binary _ = false

-- Why a table is not written. Only the forms with the binary form's bytes have such reasons: the first value that has more
-- bits than the table's width, else why the form cannot store the trie. No contract can say when an
-- allocation fails.
abbrev pub IsWhyNotWritten : Form → Table → TableBuildError → Type 0
IsWhyNotWritten form t (TableFailed Memory) = ⊤
IsWhyNotWritten form t (TableFailed _) = ⊥
IsWhyNotWritten form t (Width value width) =
    (has_binary form ≡ true) × (width ≡ t.width) × (first_unfit t.width t.trie ≡ Some value)
IsWhyNotWritten form t (Binary why) =
    (has_binary form ≡ true) × (first_unfit t.width t.trie ≡ None)
    × (why_not_written (bytes_of t.width) (λ n. n) t.trie ≡ Some why)

-- The error of `built` for an error of `written`: a failed allocation is `Memory`.
abbrev pub refusal_of_write : WriteError → TableBuildError
refusal_of_write WriteMemory = TableFailed Memory
refusal_of_write why = Binary why

-- Why `built` fails: the rows make no table, or their table cannot be written.
abbrev pub IsWhyNotBuilt : List ℕ → TableOptions → Form → TableBuildError → Type 0
IsWhyNotBuilt input options form fault =
    IsWhyNoTable input options fault
    ⊎ ((t : Table) × (IsTableOf input options t × IsWhyNotWritten form t fault))
