-- Tables that have the values of another one, and another type, width or error value.
use Rattle.std.specs.Prelude.{◌≡◌, ℕ, ◌^◌, ◌≤◌, ◌<◌, Some, All, ⊤}
use Rattle.icu_trie_core.specs.ValueNumbers.{fitting}
use Rattle.icu_trie_core.specs.declared.header.TrieType.{TrieType}
use Rattle.icu_trie.specs.Parts.{Parts, trie_value}
use Rattle.icu_trie_builder.specs.Bounds.{IsTooLarge}
use Rattle.icu_trie_builder.specs.Built.{IsWellBuilt}
use Rattle.icu_trie_builder.specs.MapAnswers.{AnswersMap}
use Rattle.icu_trie_builder.specs.NullBlock.{HasDefaultNull}
use Rattle.ucptab_table.specs.declared.error.TableError.TheVariants.{TooLarge, Memory}
use Rattle.ucptrie_tables.specs.Tables.{IsValueOfMap}
use Rattle.ucptrie_tables.specs.ValueWidth.{bits_of, first_wider}
use Rattle.ucptrie_tables.specs.declared.error.TableBuildError.{TableBuildError}
use Rattle.ucptrie_tables.specs.declared.error.TableBuildError.TheVariants.{Table as TableFailed, Width, Binary}
use Rattle.ucptrie_tables.specs.declared.table.Table.{Table}
use Rattle.ucptrie_tables.specs.declared.width.ValueWidth.{ValueWidth}

-- The values of a trie: what it returns for each code point, coherent or not.
abbrev pub AreValues : Parts ℕ → (ℕ → ℕ) → Type 0
AreValues old value = (u : ℕ) → u ≤ 0x10FFFF → trie_value old u ≡ Some (value u)

-- The trie has the value of each code point in another trie, and the error value above the code
-- space. It is of the requested type and well built. Without a block of one value, its null value is
-- the value of U+10FFFF.
pub record IsRebuiltTrie (old : Parts ℕ) (kind : TrieType) (error : ℕ) (trie : Parts ℕ)
    : Type 0 where
  pub value : ℕ → ℕ
  pub unchanged : AreValues old value
  pub answers : AnswersMap value error trie
  pub null_value : HasDefaultNull (value 0x10FFFF) trie.header value
  pub built : IsWellBuilt (fitting (2 ^ 32)) value trie
  pub trie_type : trie.header.trie_type ≡ kind

-- The table's trie is such a trie, its width is the requested one, and none of its values has more
-- bits.
pub record IsRebuilt (old : Parts ℕ) (kind : TrieType) (bits : ValueWidth) (error : ℕ)
    (t : Table) : Type 0 where
  pub trie : IsRebuiltTrie old kind error t.trie
  pub width : t.width ≡ bits
  pub fits : All (λ v. v < 2 ^ bits_of t.width) t.trie.values

-- The width is the requested one, and `value` has more bits. It is the value of a code point or the
-- error value, and the first wider value in the data of such a trie.
pub record IsTooWideRebuilt (old : Parts ℕ) (kind : TrieType) (asked : ValueWidth) (error : ℕ)
    (value : ℕ) (width : ValueWidth) : Type 0 where
  pub trie : Parts ℕ
  pub rebuilt : IsRebuiltTrie old kind error trie
  pub same : width ≡ asked
  pub first : first_wider width trie.values ≡ Some value
  pub wide : 2 ^ bits_of width ≤ value
  pub source : IsValueOfMap rebuilt.value error value

-- Why a table is not rebuilt: its values make too many different blocks for a trie, or one has more
-- bits than the requested width. No clause can say when an allocation fails.
abbrev pub IsWhyNotRebuilt : Parts ℕ → TrieType → ValueWidth → ℕ → TableBuildError → Type 0
IsWhyNotRebuilt old trie_type width error (TableFailed TooLarge) =
    (value : ℕ → ℕ) × (AreValues old value × IsTooLarge value)
IsWhyNotRebuilt old trie_type width error (TableFailed Memory) = ⊤
IsWhyNotRebuilt old trie_type width error (TableFailed _) = ⊥
IsWhyNotRebuilt old trie_type width error (Width value given) =
    IsTooWideRebuilt old trie_type width error value given
IsWhyNotRebuilt old trie_type width error (Binary why) = ⊥
