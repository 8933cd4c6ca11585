-- A map from the code points 0..=0x10FFFF, as a builder stores it.
use Rattle.std.specs.Prelude.{◌≡◌, ℕ, ◌≤◌, nat_le, List, Option, length, map, slice_index_or, unwrap_or, if◌then◌else◌}
use Rattle.std.specs.List.{All}
use Rattle.icu_zerovec.specs.CodePoints.{code_point_limit}
use Rattle.icu_trie_core.specs.declared.header.TrieType.{TrieType}
use Rattle.icu_trie_builder.specs.declared.writes.Write.{Write}
use Rattle.icu_trie_builder.specs.Writes.{value_after}

-- The value of a builder in contracts: the value of each code point in order, the default, the
-- error value and the type of the trie to build.
pub record CodePointMap (T : Type 0) : Type 0 where
  pub values : List T
  pub default : T
  pub error : T
  pub trie_type : TrieType

-- The value of a code point.
abbrev pub map_value : {T : Type 0} → CodePointMap T → ℕ → T
map_value m c = slice_index_or m.values c m.default

-- The value of the map at any number: the value of a code point, and the error value above
-- 0x10FFFF.
abbrev pub map_answer : {T : Type 0} → CodePointMap T → ℕ → T
map_answer m u = if nat_le u 0x10FFFF then map_value m u else m.error

-- new is old after the writes. The default, the error value and the trie type are unchanged.
pub record IsAfter {T : Type 0} (ws : List (Write T)) (old new : CodePointMap T) : Type 0 where
  pub values : (c : ℕ) → c ≤ 0x10FFFF → map_value new c ≡ value_after ws (map_value old c) c
  pub default : new.default ≡ old.default
  pub error : new.error ≡ old.error
  pub trie_type : new.trie_type ≡ old.trie_type

-- The value with number n, or the default if there is none.
abbrev pub value_of_number : {T : Type 0} → (ℕ → Option T) → T → ℕ → T
value_of_number of_number default n = unwrap_or (of_number n) default

-- The values with these numbers.
unfoldable pub values_of_numbers : {T : Type 0} → (ℕ → Option T) → T → List ℕ → List T
values_of_numbers of_number default numbers = map (value_of_number of_number default) numbers

-- n is the number of a value of the type.
abbrev pub IsNumberOf : {T : Type 0} → (T → Type 0) → (T → ℕ) → ℕ → Type 0
IsNumberOf {T} is_value number n = (x : T) × is_value x × (number x ≡ n)

-- A valid builder: it has one number for each code point, each the number of a value of the type.
-- The default and the error value are values of the type too.
pub record IsBuilder {T : Type 0} (is_value : T → Type 0) (number : T → ℕ) (numbers : List ℕ)
    (default error : T) : Type 0 where
  pub whole : length numbers ≡ code_point_limit
  pub all_numbers : All (IsNumberOf is_value number) numbers
  pub default_value : is_value default
  pub error_value : is_value error
