-- What a listing of the entries of a trie has reached, and what is still to come.
use Rattle.std.specs.Prelude.{ℕ, ℤ, List, Bool, Result}
use Rattle.icu_zerovec.specs.declared.memory.MemoryError.{MemoryError}
use Rattle.icu_zerovec.specs.Slice.{slice_values}
use Rattle.icu_char16trie.specs.UnitMap.{UnitMap}
use Rattle.icu_char16trie.specs.Walk.{WalkGives, AnswersEnd, IsEnd, TellsNext, walk_text, walk_work}
use Rattle.icu_char16trie.specs.Pending.{IsNodeValue}
use Rattle.icu_char16trie.specs.declared.listing.Entries.{Entries}

-- The entries m are still to come.
abbrev pub AreToCome : Entries → UnitMap → Type 0
AreToCome e m = WalkGives e.walk m

-- The text of the current entry's key, empty if no entry was reached.
abbrev pub entry_text : Entries → List ℕ
entry_text e = walk_text e.walk

-- The value of the current entry, 0 if no entry was reached.
abbrev pub entry_value : Entries → ℤ
entry_value e = e.walk.value

-- The contract of a move among the entries m: true if one was left, and then the first of them was
-- reached and the others are to come.
abbrev pub Advances : UnitMap → Result Bool MemoryError → Entries → Type 0
Advances m r e = TellsNext m r e.walk

-- Nothing is to come, on any units, and there is no current entry: the text is empty and the value
-- is 0.
abbrev pub IsAtEnd : Entries → Type 0
IsAtEnd e = IsEnd e.walk

-- After any result other than `Ok(true)` the listing is at its end.
abbrev pub EndsUnlessReached : Result Bool MemoryError → Entries → Type 0
EndsUnlessReached r e = AnswersEnd r e.walk

-- The units of the trie.
abbrev pub listed_units : Entries → List ℕ
listed_units e = slice_values e.walk.pending.units

-- The value is that of some node of the units.
abbrev pub IsSomeValue : Entries → Type 0
IsSomeValue e = IsNodeValue (listed_units e) (entry_value e)

-- An upper bound for the work that is left.
abbrev pub entries_work : Entries → ℕ
entries_work e = walk_work e.walk
