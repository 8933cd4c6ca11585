-- What all lines of a word list say: the entries of a trie.
use Rattle.std.specs.Prelude.{◌≡◌, ◌≢◌, ◌⊎◌, ℕ, ℤ, ◌-◌, ◌<◌, ◌≤◌, List, [], ◌∷◌, length, take, slice_get, Option, Some, None, IsOk, IsSome, IsSomeAnd, IsNone, MatchOption, All, AllPairs, Err}
use Rattle.std.specs.List.{filter_map}
use Rattle.std.specs.Option.{option_map}
use Rattle.std.specs.Result.{result_unwrap_or}
use Rattle.std.specs.Str.Lines.{lines}
use Rattle.icu_char16trie.specs.Matches.{text_units}
use Rattle.icu_char16trie.specs.UnitMap.{UnitMap, IsAscendingKeys, value_of}
use Rattle.icu_char16trie_builder.specs.Entries.{with_entry}
use Rattle.ucptrie_words.specs.Lines.{word_of}
use Rattle.ucptrie_words.specs.declared.error.LineError.{LineError}
use Rattle.ucptrie_words.specs.declared.error.LineError.TheVariants.{LongKey, Repeated}

-- The entry of a word: its key in units of UTF-16, and its value.
abbrev pub entry_of : List ℕ × ℤ → List ℕ × ℤ
entry_of word = (text_units word.0, word.1)

-- The entry of a line, if the line has a word.
abbrev pub entry_in : List ℕ → Option (List ℕ × ℤ)
entry_in line = option_map entry_of (result_unwrap_or (word_of line) None)

-- The entries of lines, in order.
abbrev pub entries_in : List (List ℕ) → UnitMap
entries_in ls = filter_map entry_in ls

-- A line without a fault of its own.
abbrev pub IsFaultless : List ℕ → Type 0
IsFaultless line = IsOk (word_of line)

-- Lines that make a trie: none has a fault of its own, no key has more than 65,535 units, and no
-- key comes twice.
pub record AreSound (ls : List (List ℕ)) : Type 0 where
  pub faultless : All IsFaultless ls
  pub short : All (λ e. length e.0 ≤ 65535) (entries_in ls)
  pub distinct : AllPairs (λ a b. a.0 ≢ b.0) (entries_in ls)

-- The lines make a trie, and m has exactly their entries: each key once, in unit order, with the
-- value of its line. So there is only one such m.
pub record AreWords (ls : List (List ℕ)) (m : UnitMap) : Type 0 where
  pub sound : AreSound ls
  pub ascending : IsAscendingKeys m
  pub same : (key : List ℕ) → value_of m key ≡ value_of (entries_in ls) key

-- The word of the line has this fault after lines with these entries: its key is too long, or is
-- one of theirs.
abbrev pub HasWordFault : UnitMap → List ℕ → LineError → Type 0
HasWordFault before line LongKey = IsSomeAnd (entry_in line) (λ e. 65535 < length e.0)
HasWordFault before line Repeated =
    IsSomeAnd (entry_in line) (λ e. IsSome (value_of before e.0))
HasWordFault before line fault = ⊥

-- The line has this fault of its own, or its word has it.
abbrev pub HasFault : UnitMap → List ℕ → LineError → Type 0
HasFault before line fault = (word_of line ≡ Err fault) ⊎ HasWordFault before line fault

-- Line k of the input, counted from 1, has the fault f, and the lines before it have none.
pub record IsFirstFault (input : List ℕ) (k : ℕ) (f : LineError) : Type 0 where
  pub counted : 0 < k
  pub faulty : IsSomeAnd (slice_get (lines input) (k - 1))
      (λ line. HasFault (entries_in (take (k - 1) (lines input))) line f)
  pub sound_before : AreSound (take (k - 1) (lines input))

-- The entries of a line that has no fault, added to those before.
abbrev pub IsAdded : UnitMap → List ℕ → UnitMap → Type 0
IsAdded before line after = IsFaultless line × MatchOption (entry_in line) (after ≡ before)
    (λ e. (length e.0 ≤ 65535) × IsNone (value_of before e.0) × (after ≡ with_entry e.0 e.1 before))
