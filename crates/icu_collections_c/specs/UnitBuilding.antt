-- Unit tries that are built from entries, and what C learns about them.
use Rattle.std.specs.Prelude.{◌≡◌, ◌⊎◌, ◌+◌, ◌*◌, ◌<◌, ◌≤◌, ℕ, ℤ, pos, List, [], ◌∷◌, length, take, drop, sum, All, IsNone}
use Rattle.icu_char16trie.specs.Grammar.{IsTrieOf}
use Rattle.icu_char16trie.specs.UnitMap.{UnitMap, value_of}
use Rattle.icu_char16trie_builder.specs.Entries.{most_units, with_entry}
use Rattle.icu_char16trie_builder.specs.declared.error.AddError.{AddError}
use Rattle.icu_char16trie_builder.specs.declared.error.AddError.TheVariants as add
use Rattle.icu_char16trie_builder.specs.declared.error.BuildError.{BuildError}
use Rattle.icu_char16trie_builder.specs.declared.error.BuildError.TheVariants as build
use Rattle.icu_collections_c.specs.Building.{HasBytes}
use Rattle.icu_collections_c.specs.Status.{error_number}
use Rattle.icu_collections_c.specs.UnitTries.{units_of}
use Rattle.icu_collections_c.specs.declared.error.Error.{Error}
use Rattle.icu_collections_c.specs.declared.error.Error.TheVariants.{InvalidEntries, LongKey, SameKey, TooLarge, NoMemory}

-- ---- what is given
-- There is a value for each length, and there are enough units for all keys.
abbrev pub HasEntries : List ℕ → List ℕ → List ℤ → Type 0
HasEntries keys lengths values =
    (length lengths ≡ length values) × (sum lengths ≤ length keys)

-- The entries in their order. The key of each is the next `n` units of `keys`, where n is its
-- length.
abbrev pub entries_of : List ℕ → List ℕ → List ℤ → List (List ℕ × ℤ)
entries_of keys [] values = []
entries_of keys (n ∷ ns) [] = []
entries_of keys (n ∷ ns) (v ∷ values) = (take n keys, v) ∷ entries_of (drop n keys) ns values

-- The map with the entries added, one after another.
abbrev pub with_entries : List (List ℕ × ℤ) → UnitMap → UnitMap
with_entries [] m = m
with_entries (e ∷ es) m = with_entries es (with_entry e.0 e.1 m)

-- The map of the entries, in any order.
abbrev pub map_of : List (List ℕ × ℤ) → UnitMap
map_of es = with_entries es []

-- Each entry is new when it is added: its key is neither in the map nor the key of an earlier
-- entry.
abbrev pub AreAllNew : List (List ℕ × ℤ) → UnitMap → Type 0
AreAllNew [] m = Unit {0}
AreAllNew (e ∷ es) m = IsNone (value_of m e.0) × AreAllNew es (with_entry e.0 e.1 m)

-- ---- what is returned
-- The bytes are whole units, those of a trie of the map, and no more than two for each unit that
-- `most_units` allows.
pub record AreUnitsOf (m : UnitMap) (bytes : List ℕ) : Type 0 where
  pub trie : IsTrieOf (units_of bytes) m
  pub whole : length bytes ≡ 2 * length (units_of bytes)
  pub bound : length bytes ≤ 2 * most_units m

-- Why there is no trie, by the error of the builder.
abbrev pub of_add : AddError → Error
of_add add.KeyTooLong = LongKey
of_add add.Duplicate = SameKey
of_add add.Memory = NoMemory

-- The same for the errors of the last step, which builds the units.
abbrev pub of_build : BuildError → Error
of_build build.TooLarge = TooLarge
of_build (build.Entry e) = of_add e
of_build build.Memory = NoMemory

-- An entry is rejected if it is not new, or if an allocation failed.
abbrev pub IsWhyNotAdded : Type 0 → Error → Type 0
IsWhyNotAdded fresh SameKey = ¬ fresh
IsWhyNotAdded fresh NoMemory = Unit {0}
IsWhyNotAdded fresh _ = ⊥

-- Why no unit trie is built: the entries are not given, else a key is too long, else a key is there
-- twice, else the map is too large. Or an allocation failed, which may be reported before the last
-- two.
abbrev pub IsWhyNotBuilt : List ℕ → List ℕ → List ℤ → Error → Type 0
IsWhyNotBuilt keys lengths values InvalidEntries = ¬ (HasEntries keys lengths values)
IsWhyNotBuilt keys lengths values LongKey =
    HasEntries keys lengths values × ¬ (All (λ n. n ≤ 65535) lengths)
IsWhyNotBuilt keys lengths values SameKey =
    HasEntries keys lengths values × All (λ n. n ≤ 65535) lengths
    × ¬ (AreAllNew (entries_of keys lengths values) [])
IsWhyNotBuilt keys lengths values TooLarge =
    HasEntries keys lengths values × All (λ n. n ≤ 65535) lengths
    × AreAllNew (entries_of keys lengths values) []
    × (0x7FFF_FFFF < most_units (map_of (entries_of keys lengths values)))
IsWhyNotBuilt keys lengths values NoMemory =
    HasEntries keys lengths values × All (λ n. n ≤ 65535) lengths
IsWhyNotBuilt keys lengths values _ = ⊥

-- n is the number of bytes of a trie of the entries, and the buffer holds them if all of them fit.
-- The entries are given, no key is too long, no key is there twice, and the map is not too large.
-- With U units in the keys of E entries, n is at most 4 U + 32 E.
pub record HasUnits (keys lengths : List ℕ) (values : List ℤ) (old new : List ℕ) (n : ℕ)
    : Type 0 where
  pub given : HasEntries keys lengths values
  pub short : All (λ n. n ≤ 65535) lengths
  pub fresh : AreAllNew (entries_of keys lengths values) []
  pub fits : most_units (map_of (entries_of keys lengths values)) ≤ 0x7FFF_FFFF
  pub size : n ≤ 4 * sum lengths + 32 * length lengths
  pub bytes : HasBytes (AreUnitsOf (map_of (entries_of keys lengths values))) old new n

-- The number of bytes, and they are in the buffer if all of them fit. Otherwise the number of the
-- error that says why there are none, and the buffer is unchanged.
abbrev pub AnswersUnits : List ℕ → List ℕ → List ℤ → List ℕ → List ℕ → ℤ → Type 0
AnswersUnits keys lengths values old new returned =
    ((n : ℕ) × (returned ≡ pos n) × HasUnits keys lengths values old new n)
    ⊎ ((why : Error) × (returned ≡ error_number why) × IsWhyNotBuilt keys lengths values why
    × (new ≡ old))
