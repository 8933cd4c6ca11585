-- The set of a value, and sets in ICU's serialized form as bytes.
use Rattle.std.specs.Prelude.{◌≡◌, ◌↔◌, ◌<◌, ℕ, ◌^◌, ◌+◌, ◌*◌, ◌/◌, ◌%◌, true, List, [], ◌∷◌, Some, ⊤}
use Rattle.std.specs.List.{flat_map}
use Rattle.icu_zerovec.specs.CodePoints.{code_point_limit}
use Rattle.icu_invlist.specs.InversionList.{holds}
use Rattle.icu_invlist_binary.specs.SerializedSet.{HasForm, IsWhyNotRead}
use Rattle.icu_invlist_binary.specs.declared.error.SerializeError.{SerializeError}
use Rattle.icu_invlist_binary.specs.declared.error.SerializeError.TheVariants as write_errors
use Rattle.icu_invlist_binary.specs.declared.error.SerializedSetError.{SerializedSetError}
use Rattle.icu_invlist_binary.specs.declared.error.SerializedSetError.TheVariants as read_errors
use Rattle.icu_trie_core.specs.ValueNumbers.{fitting}
use Rattle.icu_trie.specs.Parts.{Parts}
use Rattle.icu_trie.specs.Ranges.{answers, IsCoherentTrie}
use Rattle.ucptrie_sets.specs.declared.error.SetWriteError.{SetWriteError}
use Rattle.ucptrie_sets.specs.declared.error.SetWriteError.TheVariants as written_faults
use Rattle.ucptrie_sets.specs.declared.error.ValueSetError.{ValueSetError}
use Rattle.ucptrie_sets.specs.declared.error.ValueSetError.TheVariants.{NotCoherent, Memory}

-- ---- The set of a value

-- The trie is coherent, and the set contains a code point exactly if the trie gives it the value.
pub record IsSetOfValue (trie : Parts ℕ) (value : ℕ) (set : List ℕ) : Type 0 where
  pub coherent : IsCoherentTrie (fitting (2 ^ 32)) trie
  pub members : (c : ℕ) → c < code_point_limit
      → (holds set c ≡ true) ↔ (answers trie c ≡ Some value)

-- Why there is no set: the trie is not coherent, or it is and an allocation failed.
abbrev pub IsWhyNoSet : Parts ℕ → ValueSetError → Type 0
IsWhyNoSet trie NotCoherent = ¬ (IsCoherentTrie (fitting (2 ^ 32)) trie)
IsWhyNoSet trie Memory = IsCoherentTrie (fitting (2 ^ 32)) trie

-- ---- ICU's serialized form as bytes

-- The bytes of a unit of 16 bits, the low one first.
abbrev pub bytes_of_unit : ℕ → List ℕ
bytes_of_unit unit = unit % 256 ∷ unit / 256 ∷ []

-- The bytes of units, in order.
abbrev pub bytes_of_units : List ℕ → List ℕ
bytes_of_units units = flat_map bytes_of_unit units

-- The unit of two bytes, the low one first.
abbrev pub unit_of : ℕ → ℕ → ℕ
unit_of low high = low + 256 * high

-- The units of bytes. A last byte without a partner is left out.
abbrev pub units_in : List ℕ → List ℕ
units_in [] = []
units_in (low ∷ []) = []
units_in (low ∷ high ∷ bytes) = unit_of low high ∷ units_in bytes

-- Why a set is not serialized: it has no such form, or it has one and an allocation failed.
abbrev pub IsWhyNotSerialized : List ℕ → SetWriteError → Type 0
IsWhyNotSerialized set written_faults.TooLong = ¬ (HasForm set)
IsWhyNotSerialized set written_faults.Memory = HasForm set

-- Why bytes have no set: the first fault of their units. No clause can say when an allocation
-- fails.
abbrev pub IsWhyNoSetInUnits : List ℕ → SerializedSetError → Type 0
IsWhyNoSetInUnits units read_errors.Memory = ⊤
IsWhyNoSetInUnits units why = IsWhyNotRead units why

-- How an error of the serialized form is passed on.
abbrev pub refusal_of_serialize : SerializeError → SetWriteError
refusal_of_serialize write_errors.TooLong = written_faults.TooLong
refusal_of_serialize write_errors.Memory = written_faults.Memory
