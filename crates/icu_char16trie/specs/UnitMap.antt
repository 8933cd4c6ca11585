-- Maps from lists of units to numbers, as the list of their entries in unit order.
use Rattle.std.specs.Prelude.{◌≡◌, ℕ, ℤ, Bool, true, false, ◌==◌, ◌<◌, ◌⊎◌, ◌&&◌, ◌||◌, List, [], ◌∷◌, ◌++◌, Option, Some, None, if◌then◌else◌}

-- The entries of a map: each key, a list of units, with its value.
abbrev pub UnitMap : Type 0
UnitMap = List (List ℕ × ℤ)

-- The entries with these units in front of their keys.
abbrev pub under : List ℕ → UnitMap → UnitMap
under front [] = []
under front (e ∷ m) = (front ++ e.0, e.1) ∷ under front m

-- The entries whose keys start with the unit u, each without it.
unfoldable pub after : ℕ → UnitMap → UnitMap
after u [] = []
after u (([], v) ∷ m) = after u m
after u ((x ∷ key, v) ∷ m) = if x == u then (key, v) ∷ after u m else after u m

-- The entries whose keys start with these units, each without them.
unfoldable pub after_all : List ℕ → UnitMap → UnitMap
after_all [] m = m
after_all (u ∷ w) m = after_all w (after u m)

-- Equality of keys.
unfoldable pub same_key : List ℕ → List ℕ → Bool
same_key [] [] = true
same_key (x ∷ a) (y ∷ b) = x == y && same_key a b
same_key a b = false

-- The value of a key.
unfoldable pub value_of : UnitMap → List ℕ → Option ℤ
value_of [] w = None
value_of (e ∷ m) w = if same_key e.0 w then Some e.1 else value_of m w

-- The key continues after these units.
unfoldable pub key_goes_on : List ℕ → List ℕ → Bool
key_goes_on [] w = false
key_goes_on (x ∷ key) [] = true
key_goes_on (x ∷ key) (u ∷ w) = x == u && key_goes_on key w

-- Some key continues after these units.
unfoldable pub goes_on : UnitMap → List ℕ → Bool
goes_on [] w = false
goes_on (e ∷ m) w = key_goes_on e.0 w || goes_on m w

-- The index of the node of the first arm with this unit.
unfoldable pub arm_of : List (ℕ × ℕ) → ℕ → Option ℕ
arm_of [] u = None
arm_of (a ∷ arms) u = if a.0 == u then Some a.1 else arm_of arms u

-- A key is before another in unit order. A key is before its own continuations.
abbrev pub KeyBelow : List ℕ → List ℕ → Type 0
KeyBelow a [] = ⊥
KeyBelow [] (y ∷ b) = Unit {0}
KeyBelow (x ∷ a) (y ∷ b) = (x < y) ⊎ ((x ≡ y) × KeyBelow a b)

-- A key is before all keys of the entries.
abbrev pub KeyBelowAll : List ℕ → UnitMap → Type 0
KeyBelowAll key [] = Unit {0}
KeyBelowAll key (e ∷ m) = KeyBelow key e.0 × KeyBelowAll key m

-- The keys strictly ascend in unit order, so the entries are a map.
abbrev pub IsAscendingKeys : UnitMap → Type 0
IsAscendingKeys [] = Unit {0}
IsAscendingKeys (e ∷ m) = KeyBelowAll e.0 m × IsAscendingKeys m
