-- Entries that are already in unit order, so a trie can be built from them directly.
use Rattle.std.specs.Prelude.{ℕ, ℤ, pos, ◌+◌, ◌<◌, ◌≤◌, List, [], length, map, take, slice_index_or}
use Rattle.std.specs.List.{All}
use Rattle.std.specs.Borrow.{Bor}
use Rattle.icu_char16trie.specs.UnitMap.{UnitMap, IsAscendingKeys}

-- The entries of a slice of keys and values, in the slice's order.
abbrev pub pair_map : List (Bor (List ℕ) × ℤ) → UnitMap
pair_map = map (λ e. (e.0.now, e.1))

-- The key of the entry at index i.
abbrev pub key_at : UnitMap → ℕ → List ℕ
key_at m i = (slice_index_or m i ([], pos 0)).0

-- A trie can be built from the entries in their order: no key has more than 65,535 units, and the
-- keys strictly ascend in unit order.
abbrev pub IsInOrder : UnitMap → Type 0
IsInOrder m = All (λ e. length e.0 ≤ 65535) m × IsAscendingKeys m

-- The entry at index i is the first that is not valid: the entries before it are in order, but not
-- together with it.
abbrev pub IsFirstRefusedKey : UnitMap → ℕ → Type 0
IsFirstRefusedKey m i = (i < length m) × IsInOrder (take i m) × ¬ (IsInOrder (take (i + 1) m))
