-- A text cut into the words of a dictionary, the longest one at each position.
use Rattle.std.specs.Prelude.{◌≡◌, ℕ, ℤ, ◌≤◌, zero, suc, List, [], ◌∷◌, Option, Some, None, drop, length}
use Rattle.icu_collections.specs.Char16Trie.{IsLongestMatch, UnitMap}

-- The number of units of a match. It is one if there is no match or only that of the empty key.
abbrev pub taken : Option (ℕ × ℤ) → ℕ
taken None = 1
taken (Some (zero, v)) = 1
taken (Some (suc n, v)) = suc n

-- The first word of the text has n units: those of its longest key, or one unit.
abbrev pub IsFirstWord : UnitMap → List ℕ → ℕ → Type 0
IsFirstWord m text n =
    (found : Option (ℕ × ℤ)) × IsLongestMatch m text found × (n ≡ taken found) × (n ≤ length text)

-- The lengths are those of the words of the text, one after the other, to its end.
abbrev pub AreWords : UnitMap → List ℕ → List ℕ → Type 0
AreWords m text [] = text ≡ []
AreWords m text (n ∷ lengths) = IsFirstWord m text n × AreWords m (drop n text) lengths
