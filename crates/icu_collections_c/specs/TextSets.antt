-- Sets of code points and strings in the caller's memory: the words of a frozen set, and the units of
-- a trie whose keys are the strings.
use Rattle.std.specs.Prelude.{◌≡◌, ◌⊎◌, ◌&&◌, ℕ, ℤ, pos, ◌<◌, ◌≤◌, ◌++◌, Bool, true, false, List, Option, Some, None, length, take}
use Rattle.std.specs.Option.{is_some}
use Rattle.std.specs.Str.{IsUtf8, is_utf8}
use Rattle.icu_char16trie.specs.Grammar.{IsTrieOf}
use Rattle.icu_char16trie.specs.Matches.{text_units}
use Rattle.icu_char16trie.specs.UnitMap.{UnitMap, value_of}
use Rattle.icu_frozen_sets.specs.FrozenWords.{IsFrozenOf}
use Rattle.icu_text_sets.specs.TextSet.{TextSet, is_among, member, only_char}
use Rattle.icu_collections_c.specs.Status.{error_number}
use Rattle.icu_collections_c.specs.UnitTries.{StartsIllFormed}
use Rattle.icu_collections_c.specs.declared.error.Error.TheVariants.{InvalidUtf8}

-- The words start with the frozen set of the set's code points, and the units are a trie whose keys are
-- its strings. Keys of exactly one character do not count, since a set has none among its strings.
pub record IsStored (words units : List ℕ) (set : TextSet) : Type 0 where
  pub table : List ℕ
  pub rest : List ℕ
  pub frozen : IsFrozenOf set.code_points table
  pub words_are : words ≡ table ++ rest
  pub map : UnitMap
  pub trie : IsTrieOf units map
  pub strings : (text : List ℕ) → IsUtf8 text → only_char text ≡ None
      → is_among set.strings text ≡ is_some (value_of map (text_units text))

-- Whether the bytes are a text that the set contains.
abbrev pub IsTextOf : TextSet → List ℕ → Bool → Type 0
IsTextOf set bytes told = told ≡ (is_utf8 bytes && member set bytes)

-- The same for any words and units. `held` says which code points the words contain, and HasValue which
-- value the units give to a key.
module _ (held : ℕ → Bool) (HasValue : List ℕ → Option ℤ → Type 0) where
  -- Whether a text is a member, given its only character if it has exactly one.
  abbrev pub IsMemberAs : List ℕ → Option ℕ → Bool → Type 0
  IsMemberAs text (Some c) told = told ≡ held c
  IsMemberAs text None told = (v : Option ℤ) × HasValue (text_units text) v × (told ≡ is_some v)

  -- Whether the bytes are a text that is a member.
  abbrev pub IsMember : List ℕ → Bool → Type 0
  IsMember bytes told =
      (IsUtf8 bytes × IsMemberAs bytes (only_char bytes) told) ⊎ (¬ (IsUtf8 bytes) × (told ≡ false))

-- The first n bytes are the longest member that the bytes start with, or n is 0 if they start with none.
-- The empty string does not count.
pub record IsLongestMember (IsIn : List ℕ → Bool → Type 0) (bytes : List ℕ) (n : ℕ) : Type 0 where
  pub within : n ≤ length bytes
  pub is_in : 0 < n → IsIn (take n bytes) true
  pub longest : (k : ℕ) → n < k → k ≤ length bytes → IsIn (take k bytes) false

-- `InvalidUtf8` exactly if the bytes are not empty and do not start with a character. Otherwise the size
-- of the longest member that they start with, or 0.
abbrev pub AnswersMember : (List ℕ → Bool → Type 0) → List ℕ → ℤ → Type 0
AnswersMember IsIn bytes returned =
    (StartsIllFormed bytes × (returned ≡ error_number InvalidUtf8))
    ⊎ (¬ (StartsIllFormed bytes) × ((n : ℕ) × (returned ≡ pos n) × IsLongestMember IsIn bytes n))
