-- What C learns about a unit trie in bytes.
use Rattle.std.specs.Prelude.{◌≡◌, ◌⊎◌, ℕ, ℤ, pos, ◌<◌, ◌≤◌, Bool, true, false, List, Option, Some, None, length, take}
use Rattle.std.specs.Str.{IsCharBoundary, IsUtf8, StartsWithNoChar}
use Rattle.icu_frozen_sets.specs.TextFronts.{IsTextUpTo}
use Rattle.icu_char16trie.specs.CursorPlaces as cursors
use Rattle.icu_char16trie.specs.Matches.{HasValueAlong}
use Rattle.icu_char16trie.specs.UnitPlaces.{At}
use Rattle.icu_char16trie.specs.declared.iterator.TrieResult.{TrieResult}
use Rattle.icu_char16trie.specs.declared.iterator.TrieResult.TheVariants.{NoMatch, NoValue, FinalValue, Intermediate}
use Rattle.icu_char16trie.specs.declared.place.Place.{Place}
use Rattle.icu_collections_c.specs.BytesTrie.{cells_of}
use Rattle.icu_collections_c.specs.Status.{error_number}
use Rattle.icu_collections_c.specs.declared.error.Error.TheVariants.{NoKey, InvalidUtf8}
use Rattle.icu_collections_c.specs.declared.unit_tries.Cursor.{Cursor}

-- The units in the bytes, two bytes each, the low byte first.
abbrev pub units_of : List ℕ → List ℕ
units_of bytes = cells_of 2 bytes

-- The position of a cursor that C holds.
abbrev pub place_of : Cursor → Place
place_of cursor = cursors.place_of (record { position = cursor.position; left = cursor.left })

-- Such a cursor in the units of some bytes.
abbrev pub at : List ℕ → Cursor → At
at bytes cursor = record { units = units_of bytes; place = place_of cursor }

-- The cursor at the root: all zeros.
abbrev pub root : Cursor
root = record { position = 0; left = 0 }

-- If there is a value: true, and it is stored. If there is none: false, and the old value is
-- unchanged.
abbrev pub GivesValue : Option ℤ → ℤ → Bool → ℤ → Type 0
GivesValue (Some v) old told new = (told ≡ true) × (new ≡ v)
GivesValue None old told new = (told ≡ false) × (new ≡ old)

-- For any units: the value at the position to which the steps of w lead from the root.
abbrev pub GivesValueAlong : List ℕ → List ℕ → ℤ → Bool → ℤ → Type 0
GivesValueAlong units w old told new =
    (v : Option ℤ) × HasValueAlong units w v × GivesValue v old told new

-- If there is a match: its length, and its value is stored. If there is none: `NoKey`, and the old
-- value is unchanged.
abbrev pub GivesMatch : Option (ℕ × ℤ) → ℤ → ℤ → ℤ → Type 0
GivesMatch (Some found) old returned new = (returned ≡ pos found.0) × (new ≡ found.1)
GivesMatch None old returned new = (returned ≡ error_number NoKey) × (new ≡ old)

-- The result for a match with property P, or for none.
abbrev pub GivesMatchThat : (Option (ℕ × ℤ) → Type 0) → ℤ → ℤ → ℤ → Type 0
GivesMatchThat P old returned new =
    (found : Option (ℕ × ℤ)) × P found × GivesMatch found old returned new

-- The bytes are not empty and do not start with a character.
abbrev pub StartsIllFormed : List ℕ → Type 0
StartsIllFormed bytes = (0 < length bytes) × StartsWithNoChar bytes

-- For bytes that may be ill-formed, whose longest UTF-8 prefix is the text: the result for a match
-- in the text with property P, or for none. `InvalidUtf8`, with the old value unchanged, exactly if the
-- bytes are not empty and do not start with a character.
abbrev pub AnswersMatchInText : (List ℕ → Option (ℕ × ℤ) → Type 0) → List ℕ → ℤ → ℤ → ℤ → Type 0
AnswersMatchInText P bytes old returned new =
    (StartsIllFormed bytes × (returned ≡ error_number InvalidUtf8) × (new ≡ old))
    ⊎ (¬ (StartsIllFormed bytes)
    × ((n : ℕ) × IsTextUpTo bytes n × GivesMatchThat (P (take n bytes)) old returned new))

-- The first n bytes are UTF-8. If all bytes are, n is a character boundary.
abbrev pub EndsAtBoundary : List ℕ → ℕ → Type 0
EndsAtBoundary bytes n =
    (n ≤ length bytes) × IsUtf8 (take n bytes) × (IsUtf8 bytes → IsCharBoundary bytes n)

-- The numbers of the results of a step, as `enum bks_step` of bekstaudi.h and ICU's
-- UStringTrieResult name them.
abbrev pub step_number : TrieResult → ℕ
step_number NoMatch = 0
step_number NoValue = 1
step_number (FinalValue v) = 2
step_number (Intermediate v) = 3
