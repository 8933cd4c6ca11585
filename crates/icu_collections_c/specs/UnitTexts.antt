-- Unit tries whose keys are texts in UTF-8.
use Rattle.std.specs.Prelude.{◌≡◌, ◌⊎◌, ℕ, ℤ, Bool, List, [], ◌∷◌, length, map, take, drop, All, None}
use Rattle.std.specs.List.{flat_map}
use Rattle.std.specs.Str.{IsUtf8}
use Rattle.icu_char16trie.specs.Matches.{text_units}
use Rattle.icu_collections_c.specs.Status.{error_number}
use Rattle.icu_collections_c.specs.UnitBuilding.{AnswersUnits, HasEntries}
use Rattle.icu_collections_c.specs.UnitTries.{GivesValue}
use Rattle.icu_collections_c.specs.declared.error.Error.TheVariants.{InvalidEntries, NoMemory, InvalidUtf8}

-- If the bytes are a `text`: what it `gives`. If they are not: false, and the old value is
-- unchanged.
abbrev pub GivesIfText : Type 0 → Type 0 → ℤ → Bool → ℤ → Type 0
GivesIfText text gives old told new = (text × gives) ⊎ (¬ text × GivesValue None old told new)

-- The keys in their order. Each is the next n bytes, where n is its length.
abbrev pub keys_of : List ℕ → List ℕ → List (List ℕ)
keys_of bytes [] = []
keys_of bytes (n ∷ ns) = take n bytes ∷ keys_of (drop n bytes) ns

-- The UTF-16 units of all keys, one after another.
abbrev pub key_units : List (List ℕ) → List ℕ
key_units keys = flat_map text_units keys

-- How many UTF-16 units each key has.
abbrev pub key_lengths : List (List ℕ) → List ℕ
key_lengths keys = map (λ key. length (text_units key)) keys

-- What `bks_units_build` returns and leaves in the buffer for the UTF-16 units of the keys. Or
-- `NoMemory` if an allocation failed, and the buffer is unchanged.
abbrev pub AnswersTranscoded : List (List ℕ) → List ℤ → List ℕ → List ℕ → ℤ → Type 0
AnswersTranscoded keys values old new returned =
    AnswersUnits (key_units keys) (key_lengths keys) values old new returned
    ⊎ ((returned ≡ error_number NoMemory) × (new ≡ old))

-- `InvalidEntries` if the entries are not given, else `InvalidUtf8` if a key is not UTF-8; the buffer is then
-- unchanged. Else what is built of the UTF-16 units of the keys.
abbrev pub AnswersTextUnits : List ℕ → List ℕ → List ℤ → List ℕ → List ℕ → ℤ → Type 0
AnswersTextUnits keys lengths values old new returned =
    (¬ (HasEntries keys lengths values) × (returned ≡ error_number InvalidEntries) × (new ≡ old))
    ⊎ (HasEntries keys lengths values × ¬ (All IsUtf8 (keys_of keys lengths))
    × (returned ≡ error_number InvalidUtf8) × (new ≡ old))
    ⊎ (HasEntries keys lengths values × All IsUtf8 (keys_of keys lengths)
    × AnswersTranscoded (keys_of keys lengths) values old new returned)
