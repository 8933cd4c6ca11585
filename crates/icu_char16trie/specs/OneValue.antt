-- The value that all keys ahead of a position have.
use Rattle.std.specs.Prelude.{◌≡◌, ◌≢◌, ℕ, ℤ, List, [], ◌∷◌, ⊤}
use Rattle.icu_char16trie.specs.UnitMap.{UnitMap}
use Rattle.icu_char16trie.specs.UnitPlaces.{Stands}
use Rattle.icu_char16trie.specs.declared.place.Place.{Place}

-- The value of each entry is v.
abbrev pub AllHaveValue : UnitMap → ℤ → Type 0
AllHaveValue [] v = ⊤
AllHaveValue (e ∷ m) v = (e.1 ≡ v) × AllHaveValue m v

-- There are entries, and the value of each is v.
abbrev pub HaveOneValue : UnitMap → ℤ → Type 0
HaveOneValue m v = (m ≢ []) × AllHaveValue m v

-- The units are a trie from this position on, and v is the value of all keys ahead of it.
abbrev pub StandsForOneValue : List ℕ → Place → ℤ → Type 0
StandsForOneValue units place v = (m : UnitMap) × Stands units place m × HaveOneValue m v
