-- The entries of a builder: a map of keys to values, in unit order.
use Rattle.std.specs.Prelude.{ℕ, ℤ, ◌+◌, ◌*◌, List, [], ◌∷◌, length, Vec}
use Rattle.std.specs.Cmp.Lexicographic.{slice_cmp}
use Rattle.std.specs.Ordering.{nat_cmp, match_ordering}
use Rattle.std.specs.Global.{Global}
use Rattle.icu_char16trie.specs.UnitMap.{UnitMap}

-- The entries with one more, before those with greater keys. It replaces an entry with the same
-- key.
unfoldable pub with_entry : List ℕ → ℤ → UnitMap → UnitMap
with_entry key v [] = (key, v) ∷ []
with_entry key v (e ∷ m) =
    match_ordering (slice_cmp nat_cmp key e.0) ((key, v) ∷ e ∷ m) ((key, v) ∷ m)
    (e ∷ with_entry key v m)

-- The largest number of units in a trie of the entries: two for each unit of a key, and sixteen for
-- each entry.
unfoldable pub most_units : UnitMap → ℕ
most_units [] = 0
most_units (e ∷ m) = 2 * length e.0 + 16 + most_units m

-- The entries of a `BTreeMap` of keys to values.
abbrev pub entry_map : List (Vec ℕ Global × ℤ) → UnitMap
entry_map [] = []
entry_map (e ∷ es) = (e.0.items, e.1) ∷ entry_map es
