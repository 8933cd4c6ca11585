-- The errors that entries in a slice can have before anything is allocated.
use Rattle.std.specs.Prelude.{◌<◌, ◌≤◌, Option, Some, None, length}
use Rattle.icu_char16trie.specs.UnitMap.{UnitMap}
use Rattle.icu_char16trie_builder.specs.Entries.{most_units}
use Rattle.icu_char16trie_builder.specs.Sorted.{key_at, IsInOrder, IsFirstRefusedKey}
use Rattle.icu_char16trie_builder.specs.declared.error.SortedError.{SortedError}
use Rattle.icu_char16trie_builder.specs.declared.error.SortedError.TheVariants.{KeyTooLong, NotAscending, TooLarge, Memory}

-- The error applies to the entries.
abbrev pub IsRefusal : UnitMap → SortedError → Type 0
IsRefusal m (KeyTooLong i) = IsFirstRefusedKey m i × (65535 < length (key_at m i))
IsRefusal m (NotAscending i) = IsFirstRefusedKey m i × (length (key_at m i) ≤ 65535)
IsRefusal m TooLarge = IsInOrder m × (0x7FFF_FFFF < most_units m)
IsRefusal m Memory = ⊥

-- The entries can be written: they are in order, and no trie of them needs too many units.
abbrev pub CanBeWritten : UnitMap → Type 0
CanBeWritten m = IsInOrder m × (most_units m ≤ 0x7FFF_FFFF)

-- The result applies to the entries: an error, or None if they can be written.
abbrev pub IsTold : UnitMap → Option SortedError → Type 0
IsTold m None = CanBeWritten m
IsTold m (Some e) = IsRefusal m e
