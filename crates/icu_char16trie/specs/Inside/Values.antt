-- The indices at which there have to be nodes whose entries have one value.
use Rattle.std.specs.Prelude.{◌≡◌, ℕ, ℤ, ◌<◌, ◌↔◌, Bool, List, Option, Some, None, ⊤, length}
use Rattle.icu_char16trie.specs.Grammar.{Holds}
use Rattle.icu_char16trie.specs.UnitMap.{UnitMap}
use Rattle.icu_char16trie.specs.OneValue.{AllHaveValue, StandsForOneValue}
use Rattle.icu_char16trie.specs.Inside.Soundness.{AllBetween, AllHold, IsWanted, want_all}
use Rattle.icu_char16trie.specs.declared.place.Place.{Place}

-- There is a node at q, and the value of each of its entries is v.
abbrev pub HasValue : List ℕ → ℤ → ℕ → Type 0
HasValue units v q = (m : UnitMap) × Holds units q m × AllHaveValue m v

-- A value, if there is one, is v.
abbrev pub Agrees : Option ℤ → ℤ → Type 0
Agrees None v = ⊤
Agrees (Some a) v = a ≡ v

-- Index p is marked, and nothing else.
abbrev pub IsOnlyWanted : List Bool → ℕ → Type 0
IsOnlyWanted wanted p = IsWanted wanted p × ((q : ℕ) → IsWanted wanted q → q ≡ p)

-- Two statements are equivalent for each v. The first is: the value found before, if any, and all
-- values of the node at p are v. The second is: the value found after it, if any, and all values of
-- the nodes that it leads to are v. These nodes are after p, and their indices are now marked.
pub record RestsOnOne (units : List ℕ) (p : ℕ) (found one : Option ℤ) (old new : List Bool)
    : Type 0 where
  pub places : List ℕ
  pub ahead : AllBetween p (length units) places
  pub wanted : new ≡ want_all places old
  pub makes : (v : ℤ) → Agrees one v → AllHold (HasValue units v) places
      → Agrees found v × HasValue units v p
  pub gives : (v : ℤ) → Agrees found v → HasValue units v p
      → Agrees one v × AllHold (HasValue units v) places

-- The entries ahead of a position are those of the node at p, under the units before it.
pub record IsNodeAhead (units : List ℕ) (place : Place) (p : ℕ) : Type 0 where
  pub within : p < length units
  pub same : (v : ℤ) → StandsForOneValue units place v ↔ HasValue units v p
