-- The keys that a text starts with.
use Rattle.std.specs.Prelude.{◌≡◌, ℕ, ℤ, ◌+◌, ◌<◌, ◌≤◌, List, [], ◌∷◌, Option, Some, None, encode_utf8_all, length, take}
use Rattle.std.specs.Char.Escape.{encode_utf16}
use Rattle.std.specs.List.{flat_map, range_with_len}
use Rattle.std.specs.Str.{chars}
use Rattle.icu_char16trie.specs.UnitMap.{UnitMap, value_of}
use Rattle.icu_char16trie.specs.UnitPlaces.{value_at}
use Rattle.icu_char16trie.specs.Steps.{StepsAlong}
use Rattle.icu_char16trie.specs.declared.place.Place.{Place}
use Rattle.icu_char16trie.specs.declared.place.Place.TheVariants.{Node}

-- The UTF-16 units of a UTF-8 text.
abbrev pub text_units : List ℕ → List ℕ
text_units text = flat_map encode_utf16 (chars text)

-- The longest prefix of at most `most` units that has a value, as its length and its value; None if
-- no prefix has one. HasValue k v says that the value of the prefix of k units is v, which may be
-- None. If no prefix has two values, there is only one such result.
abbrev pub LongestWithin : (ℕ → Option ℤ → Type 0) → ℕ → Option (ℕ × ℤ) → Type 0
LongestWithin HasValue most None = (k : ℕ) → k ≤ most → HasValue k None
LongestWithin HasValue most (Some found) =
    (found.0 ≤ most)
    × HasValue found.0 (Some found.1)
    × ((k : ℕ) → found.0 < k → k ≤ most → HasValue k None)

-- The value at the position to which the units w lead from the root, on all units.
abbrev pub HasValueAlong : List ℕ → List ℕ → Option ℤ → Type 0
HasValueAlong units w v = (q : Place) × StepsAlong units (Node 0) w q × (value_at units q ≡ v)

-- The value of the prefix of k units of a text, in a map.
abbrev pub HasFrontValue : UnitMap → List ℕ → ℕ → Option ℤ → Type 0
HasFrontValue m text k v = value_of m (take k text) ≡ v

-- The value of the prefix of k units of a text, by the steps.
abbrev pub HasFrontStepped : List ℕ → List ℕ → ℕ → Option ℤ → Type 0
HasFrontStepped units text k v = HasValueAlong units (take k text) v

-- The longest key of the map that the text starts with, as its length in units and its value; None
-- if the text starts with no key.
abbrev pub IsLongestMatch : UnitMap → List ℕ → Option (ℕ × ℤ) → Type 0
IsLongestMatch m text = LongestWithin (HasFrontValue m text) (length text)

-- The longest prefix of the text to which the steps give a value, on all units, as its length in
-- units and its value; None if there is none.
abbrev pub IsLongestStepped : List ℕ → List ℕ → Option (ℕ × ℤ) → Type 0
IsLongestStepped units text = LongestWithin (HasFrontStepped units text) (length text)

-- The UTF-16 units of the first k of some characters.
abbrev pub front_units : List ℕ → ℕ → List ℕ
front_units cs k = flat_map encode_utf16 (take k cs)

-- The value of the first k of some characters, in a map.
abbrev pub HasCharsValue : UnitMap → List ℕ → ℕ → Option ℤ → Type 0
HasCharsValue m cs k v = value_of m (front_units cs k) ≡ v

-- The value of the first k of some characters, by the steps.
abbrev pub HasCharsStepped : List ℕ → List ℕ → ℕ → Option ℤ → Type 0
HasCharsStepped units cs k v = HasValueAlong units (front_units cs k) v

-- A match whose length in characters is converted to bytes of UTF-8.
abbrev pub in_bytes : List ℕ → Option (ℕ × ℤ) → Option (ℕ × ℤ)
in_bytes cs None = None
in_bytes cs (Some found) = Some (length (encode_utf8_all (take found.0 cs)), found.1)

-- The longest key of the map that consists of the first characters of a text, as its length in
-- bytes and its value.
abbrev pub IsLongestInText : UnitMap → List ℕ → Option (ℕ × ℤ) → Type 0
IsLongestInText m text result =
    (found : Option (ℕ × ℤ))
    × LongestWithin (HasCharsValue m (chars text)) (length (chars text)) found
    × (result ≡ in_bytes (chars text) found)

-- The longest sequence of first characters of a text to which the steps give a value, on all units,
-- as its length in bytes and its value.
abbrev pub IsLongestSteppedInText : List ℕ → List ℕ → Option (ℕ × ℤ) → Type 0
IsLongestSteppedInText units text result =
    (found : Option (ℕ × ℤ))
    × LongestWithin (HasCharsStepped units (chars text)) (length (chars text)) found
    × (result ≡ in_bytes (chars text) found)

-- The prefix of k units as a match, if it has a value: its length and its value.
abbrev pub match_at : ℕ → Option ℤ → List (ℕ × ℤ)
match_at k None = []
match_at k (Some v) = (k, v) ∷ []

-- The matches among n prefixes of a text, the first of which has k units.
abbrev pub matches_from : UnitMap → List ℕ → ℕ → ℕ → List (ℕ × ℤ)
matches_from m text k n = flat_map (λ j. match_at j (value_of m (take j text))) (range_with_len k n)

-- All keys that the text starts with, each once, the shortest first: the length and the value of
-- each.
abbrev pub matches_of : UnitMap → List ℕ → List (ℕ × ℤ)
matches_of m text = matches_from m text 0 (length text + 1)
