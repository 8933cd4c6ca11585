-- The values of the numbers in a trie or in a map.
use Rattle.std.specs.Prelude.{◌≡◌, ℕ, List, Option, Some, map, slice_index_or}
use Rattle.icu_trie_builder.specs.CodePointMap.{values_of_numbers}

-- The value of a code point, from the numbers of all code points.
abbrev pub number_value : {T : Type 0} → (ℕ → Option T) → T → List ℕ → ℕ → T
number_value of_number default numbers c =
    slice_index_or (values_of_numbers of_number default numbers) c default

-- The values have these numbers, cell by cell.
abbrev pub AreValuesOf : {T : Type 0} → (ℕ → Option T) → List ℕ → List T → Type 0
AreValuesOf of_number numbers values = map Some values ≡ map of_number numbers
