-- Tries that are built from rows, over values of any type, compared by the numbers of the values.
use Rattle.std.specs.Prelude.{◌≡◌, ℕ, ◌<◌, ◌≤◌, ◌⊎◌, List, length, map, Option, Some, option_map}
use Rattle.icu_trie.specs.Parts.{Parts, trie_value}
use Rattle.icu_trie.specs.Ranges.{IsCoherentTrie}
use Rattle.icu_trie_core.specs.ValueNumbers.{type_number}
use Rattle.icu_trie_core.specs.declared.header.TrieType.{TrieType}
use Rattle.icu_trie_binary.specs.BinaryTrie.{IsStored}
use Rattle.icu_trie_binary.specs.WrittenTrie.{why_not_written}
use Rattle.icu_trie_binary.specs.declared.error.WriteError.{WriteError}
use Rattle.icu_trie_binary.specs.declared.error.WriteError.TheVariants as write
use Rattle.icu_trie_builder.specs.declared.error.BuildError.{BuildError}
use Rattle.icu_trie_builder.specs.declared.error.BuildError.TheVariants.{TooLarge, Memory}
use Rattle.icu_trie_builder.specs.Bounds.{IsTooLarge}
use Rattle.icu_trie_builder.specs.Built.{IsWellBuilt}
use Rattle.icu_trie_builder.specs.Writes.{write_first, write_last, write_value}
use Rattle.icu_trie_builder.specs.declared.writes.Write.{Write}
use Rattle.icu_collections_c.specs.Building.{most_bytes, row_answer, row_value}
use Rattle.icu_collections_c.specs.declared.building.Row.{Row}
use Rattle.icu_collections_c.specs.declared.error.Error.{Error}
use Rattle.icu_collections_c.specs.declared.error.Error.TheVariants as error_of

-- Why no trie is built, by the error of the builder and by that of the writer.
abbrev pub of_build : BuildError → Error
of_build TooLarge = error_of.TooLarge
of_build Memory = error_of.NoMemory

-- The same for an error of the writer.
abbrev pub of_write : WriteError → Error
of_write write.Memory = error_of.NoMemory
of_write _ = error_of.TooLarge

module _ {T : Type 0} (number : T → ℕ) where
  -- The row that says what a write does.
  abbrev pub row_of : Write T → Row
  row_of w = record { first = write_first w; last = write_last w; value = number (write_value w) }

  -- The writes do what the rows say, one write for each row.
  abbrev pub AreWritesOf : List Row → List (Write T) → Type 0
  AreWritesOf rows writes = map row_of writes ≡ rows

  -- The trie has the type, and the numbers of its values are those that the rows give.
  pub record IsTrieOfNumbers (rows : List Row) (default error : ℕ) (kind : TrieType) (t : Parts T)
      : Type 0 where
    pub of_kind : t.header.trie_type ≡ kind
    pub answers : (u : ℕ)
        → option_map number (trie_value t u) ≡ Some (row_answer rows default error u)

  -- All the bytes together are such a trie. It is coherent, and takes no more bytes than such rows
  -- may.
  pub record IsBuiltOf (unpack : List ℕ → Option T) (width : ℕ) (of_number : ℕ → Option T)
      (rows : List Row) (default error : ℕ) (kind : TrieType) (bytes : List ℕ) : Type 0 where
    pub trie : Parts T
    pub stored : IsStored unpack width number of_number bytes trie (length bytes)
    pub of_rows : IsTrieOfNumbers rows default error kind trie
    pub coherent : IsCoherentTrie of_number trie
    pub size : length bytes ≤ most_bytes (length rows) (type_number kind) width

  -- The map is too large for a trie, or such a trie is too large for the binary form.
  abbrev pub IsTooLargeOf : (ℕ → Option T) → ℕ → List Row → ℕ → ℕ → TrieType → Type 0
  IsTooLargeOf of_number width rows default error kind =
      ((256 < length rows) × IsTooLarge (row_value rows default))
      ⊎ ((t : Parts T) × IsTrieOfNumbers rows default error kind t
      × IsWellBuilt of_number (row_value rows default) t
      × (why : WriteError) × (why_not_written width number t ≡ Some why))
