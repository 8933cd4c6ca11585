-- What C learns about bytes that may be a trie in ICU's binary form.
use Rattle.std.specs.Prelude.{◌≡◌, ℕ, List}
use Rattle.icu_trie_core.specs.Format.{fast_limit}
use Rattle.icu_trie_core.specs.declared.error.CodePointTrieError.{CodePointTrieError}
use Rattle.icu_trie_core.specs.declared.error.CodePointTrieError.TheVariants.{EmptyDataVector, InvalidNullValue, IndexTooShortForFastAccess, DataTooShortForFastAccess, FromDeserialized}
use Rattle.icu_trie_binary.specs.BinaryTrie.{IsUnsignedStored, IsWhyNoneStored}
use Rattle.icu_trie_binary.specs.declared.error.BinaryError.{BinaryError}
use Rattle.icu_trie_binary.specs.declared.error.BinaryError.TheVariants.{Short, Signature, Swapped, UnknownType, UnknownWidth, Reserved, OtherWidth, CutOff, Cell, Trie}
use Rattle.icu_collections_c.specs.declared.tries.Trie as kept
use Rattle.icu_collections_c.specs.BytesTrie.{IsSoundOf, header_of, parts_of, value_width}

-- The numbers of the faults, as `enum bks_error` of bekstaudi.h names them.
abbrev pub parts_status : CodePointTrieError → ℕ
parts_status EmptyDataVector = 10
parts_status InvalidNullValue = 11
parts_status IndexTooShortForFastAccess = 12
parts_status DataTooShortForFastAccess = 13
parts_status (FromDeserialized reason) = 14

-- The same for any fault of the bytes.
abbrev pub status_of : BinaryError → ℕ
status_of Short = 1
status_of Signature = 2
status_of Swapped = 3
status_of UnknownType = 4
status_of UnknownWidth = 5
status_of Reserved = 6
status_of OtherWidth = 7
status_of CutOff = 8
status_of (Cell i) = 9
status_of (Trie e) = parts_status e

-- The trie is the one at the start of the bytes, of its width, and takes `size` of them. So its
-- cells are whole, and they are the cells of a trie.
pub record IsOpened (bytes : List ℕ) (trie : kept.Trie) : Type 0 where
  pub width : value_width trie.width ≡ trie.width
  -- The inline look-ups of bekstaudi.h read the index below `fast_limit` without a test, so it has
  -- to be the limit of the trie's type: 0x10000 for a fast trie, 0x1000 for a small one.
  pub limit : trie.fast_limit ≡ fast_limit (header_of trie).trie_type
  pub stored : IsUnsignedStored trie.width bytes (parts_of trie.width trie) trie.size
  pub sound : IsSoundOf trie.width trie

-- The bytes do not start with a trie, and this is the number of their first fault.
pub record IsRefused (bytes : List ℕ) (status : ℕ) : Type 0 where
  pub error : BinaryError
  pub first : IsWhyNoneStored bytes error
  pub told : status ≡ status_of error
