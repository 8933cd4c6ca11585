-- What a cursor has passed, and what it returns then.
use Rattle.std.specs.Prelude.{◌≡◌, ℕ, ℤ, Bool, true, false, List, ◌++◌, Option, Some, None}
use Rattle.icu_char16trie.specs.UnitMap.{UnitMap}
use Rattle.icu_char16trie.specs.UnitPlaces.{At, HasPassed, value_at, is_empty_at}
use Rattle.icu_char16trie.specs.Steps.{StepsAlong}
use Rattle.icu_char16trie.specs.declared.iterator.TrieResult.{TrieResult}
use Rattle.icu_char16trie.specs.declared.iterator.TrieResult.TheVariants.{NoMatch, NoValue, FinalValue, Intermediate}

-- The units w have led a cursor from one position to another in the same units.
pub record Passes (old : At) (w : List ℕ) (new : At) : Type 0 where
  pub units : new.units ≡ old.units
  pub exact : StepsAlong old.units old.place w new.place
  pub after : (m : UnitMap) (key : List ℕ) → HasPassed old m key → HasPassed new m (key ++ w)

-- The result for a key with this value, if it has one. The Bool says whether no key continues after
-- it.
abbrev pub result_of : Option ℤ → Bool → TrieResult
result_of (Some v) true = FinalValue v
result_of (Some v) false = Intermediate v
result_of None true = NoMatch
result_of None false = NoValue

-- The result at a position, on all units.
abbrev pub answer_at : At → TrieResult
answer_at cursor =
    result_of (value_at cursor.units cursor.place) (is_empty_at cursor.units cursor.place)
