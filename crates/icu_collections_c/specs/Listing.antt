-- The entries of a unit trie as C sees them, and how many there are.
use Rattle.std.specs.Prelude.{◌≡◌, ◌⊎◌, ◌+◌, ◌-◌, ◌^◌, ◌≤◌, ◌&&◌, nat_lt, nat_le, min, ℕ, ℤ, pos, List, [], ◌∷◌, length, map, All, if◌then◌else◌}
use Rattle.std.specs.List.{flat_map}
use Rattle.std.specs.Str.{IsUtf8}
use Rattle.icu_char16trie.specs.Grammar.{IsTrieOf}
use Rattle.icu_char16trie.specs.LossyText.{key_text}
use Rattle.icu_char16trie.specs.UnitMap.{UnitMap}
use Rattle.icu_zerovec.specs.Buffers.{written}
use Rattle.icu_collections_c.specs.Status.{error_number}
use Rattle.icu_collections_c.specs.declared.listing.Word.{Word}
use Rattle.icu_collections_c.specs.declared.error.Error.TheVariants.{NoMemory, InvalidTrie, TooLarge}

-- An entry as it is listed: its key as UTF-8 bytes, and its value.
abbrev pub shown : List ℕ × ℤ → List ℕ × ℤ
shown e = (key_text e.0, e.1)

-- The bytes of the texts, one after another.
abbrev pub texts_of : List (List ℕ × ℤ) → List ℕ
texts_of items = flat_map (λ e. e.0) items

-- The offset, size and value of each text if the first one is at offset `start`.
abbrev pub words_from : ℕ → List (List ℕ × ℤ) → List Word
words_from start [] = []
words_from start (e ∷ es) =
    (record { start = start; size = length e.0; value = e.1 }) ∷ words_from (start + length e.0) es

-- The first items, as many as fit: at most `words` of them, with at most `bytes` bytes of texts.
abbrev pub fitting : ℕ → ℕ → List (List ℕ × ℤ) → List (List ℕ × ℤ)
fitting words bytes [] = []
fitting words bytes (e ∷ es) =
    if nat_lt 0 words && nat_le (length e.0) bytes
    then e ∷ fitting (words - 1) (bytes - length e.0) es else []

-- The items of the units are texts with values. If the units are a trie of a map, the items are its
-- entries, in unit order.
pub record AreItemsOf (units : List ℕ) (items : List (List ℕ × ℤ)) : Type 0 where
  pub texts : All (λ e. IsUtf8 e.0) items
  pub entries : (m : UnitMap) → IsTrieOf units m → items ≡ map shown m

-- n is the number of items, and `size` the number of bytes of their texts. The buffers start with
-- the items that fit, and the rest of the buffers is unchanged.
pub record HasItems (items : List (List ℕ × ℤ)) (words words' : List Word)
    (texts texts' : List ℕ) (size n : ℕ) : Type 0 where
  pub count : n ≡ length items
  pub size_is : size ≡ length (texts_of items)
  pub words_are : words'
      ≡ written (words_from 0 (fitting (length words) (length texts) items)) words
  pub texts_are : texts'
      ≡ written (texts_of (fitting (length words) (length texts) items)) texts

-- There are more items or more bytes than a signed 64-bit number can count.
abbrev pub AreTooMany : List (List ℕ × ℤ) → Type 0
AreTooMany items = (2 ^ 63 ≤ length items) ⊎ (2 ^ 63 ≤ length (texts_of items))

-- The number of items of the units, and the buffers hold those that fit. Otherwise `TooLarge` if
-- there are too many, `NoMemory` if an allocation failed; then nothing is written.
abbrev pub AnswersListing : List ℕ → List Word → List Word → List ℕ → List ℕ → ℕ → ℕ → ℤ → Type 0
AnswersListing units words words' texts texts' size size' returned =
    ((items : List (List ℕ × ℤ)) × AreItemsOf units items
    × (((n : ℕ) × (returned ≡ pos n) × HasItems items words words' texts texts' size' n)
    ⊎ ((returned ≡ error_number TooLarge) × AreTooMany items
    × (words' ≡ words) × (texts' ≡ texts) × (size' ≡ size))))
    ⊎ ((returned ≡ error_number NoMemory) × (words' ≡ words) × (texts' ≡ texts) × (size' ≡ size))

-- The units are not a trie of any map.
abbrev pub AreNoTrie : List ℕ → Type 0
AreNoTrie units = (m : UnitMap) → IsTrieOf units m → ⊥

-- The number of entries of the map whose trie the units are, or 2^63 - 1 if there are more.
-- Otherwise `InvalidTrie` if the units are not a trie, `NoMemory` if an allocation failed.
abbrev pub AnswersCount : List ℕ → ℤ → Type 0
AnswersCount units returned =
    ((n : ℕ) × (returned ≡ pos n) × ¬ (AreNoTrie units)
    × ((m : UnitMap) → IsTrieOf units m → n ≡ min (length m) (2 ^ 63 - 1)))
    ⊎ ((returned ≡ error_number InvalidTrie) × AreNoTrie units)
    ⊎ (returned ≡ error_number NoMemory)
