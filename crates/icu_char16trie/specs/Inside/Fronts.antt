-- What is found while the prefixes of a text are looked up one after another.
use Rattle.std.specs.Prelude.{◌≡◌, ℕ, ℤ, ◌+◌, ◌^◌, ◌<◌, ◌≤◌, List, Option, Some, None, MatchOption, length, slice_get, take}
use Rattle.icu_char16trie.specs.Steps.{InMatch, InPart, StepsTo, StepsAlong}
use Rattle.icu_char16trie.specs.UnitPlaces.{value_at}
use Rattle.icu_char16trie.specs.declared.place.Place.{Place}
use Rattle.icu_char16trie.specs.declared.place.Place.TheVariants.{Node}

-- The longest match once the prefix of n units is looked up, given the longest match before it.
abbrev pub longer : ℕ → Option ℤ → Option (ℕ × ℤ) → Option (ℕ × ℤ)
longer n (Some v) found = Some (n, v)
longer n None found = found

-- If the unit u leads to r in the smaller part with m entries at q, it leads to r in the part with
-- n entries at p.
pub record LeadsAs (units : List ℕ) (u p n q m : ℕ) : Type 0 where
  pub near : q < 2 ^ 63
  pub fewer : m < n
  pub leads : (r : Option ℕ) → InPart units u q m r → InPart units u p n r

-- The text starts with the n units at p.
pub record BeginsRun (units : List ℕ) (p n : ℕ) (text : List ℕ) : Type 0 where
  pub within : n ≤ length text
  pub same : (k : ℕ) → k < n → slice_get units (p + k) ≡ slice_get text k

-- The value at the position to which the units w lead from `from`.
abbrev pub HasValueFrom : List ℕ → Place → List ℕ → Option ℤ → Type 0
HasValueFrom units from w v = (q : Place) × StepsAlong units from w q × (value_at units q ≡ v)

-- No non-empty prefix of the text has a value when it is looked up from `from`.
abbrev pub NoneHasValue : List ℕ → Place → List ℕ → Type 0
NoneHasValue units from text =
    (k : ℕ) → 0 < k → k ≤ length text → HasValueFrom units from (take k text) None

-- The first n units of the text, at least one, lead from `from` to the node at q. No shorter
-- non-empty prefix has a value.
pub record LeadsToNode (units : List ℕ) (from : Place) (text : List ℕ) (q n : ℕ) : Type 0 where
  pub some : 0 < n
  pub within : n ≤ length text
  pub steps : StepsAlong units from (take n text) (Node q)
  pub none : (k : ℕ) → 0 < k → k < n → HasValueFrom units from (take k text) None

-- From this position a unit leads where it leads from the match node with these low six bits, whose
-- lead and value are before p.
abbrev pub LeadsByMatch : List ℕ → Place → ℕ → ℕ → Type 0
LeadsByMatch units from p low =
    (u : ℕ) (to : Place) → InMatch units u p low to → StepsTo units from u to

-- From such a position the text leads to a node after a number of units, or no non-empty prefix of
-- it has a value.
abbrev pub PassesMatch : List ℕ → List ℕ → ℕ → ℕ → Option (ℕ × ℕ) → Type 0
PassesMatch units text p low r =
    (from : Place) → LeadsByMatch units from p low
    → MatchOption r (NoneHasValue units from text)
    (λ on. LeadsToNode units from text on.0 on.1)
