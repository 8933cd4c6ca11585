-- The entries of a unit trie below a prefix, page by page, as C sees them.
use Rattle.std.specs.Prelude.{◌≡◌, ◌↔◌, ◌⊎◌, ◌<◌, ◌≤◌, ◌+◌, ℕ, ℤ, pos, List, ◌++◌, length, map, min, take}
use Rattle.icu_char16trie.specs.LossyText.{key_text}
use Rattle.icu_char16trie.specs.Matches.{text_units}
use Rattle.icu_char16trie.specs.UnitMap.{UnitMap, after_all}
use Rattle.icu_zerovec.specs.Buffers.{written}
use Rattle.icu_collections_c.specs.Listing.{fitting, texts_of, words_from}
use Rattle.icu_collections_c.specs.Status.{error_number}
use Rattle.icu_collections_c.specs.declared.listing.Word.{Word}
use Rattle.icu_collections_c.specs.declared.error.Error.TheVariants.{NoMemory, InvalidUtf8}

-- An entry as it is listed: the prefix and the rest of its key, both as UTF-8 bytes, and its value.
abbrev pub shown_below : List ℕ → List ℕ × ℤ → List ℕ × ℤ
shown_below prefix e = (prefix ++ key_text e.0, e.1)

-- The entries whose keys start with the UTF-16 units of the prefix, a text in UTF-8, in unit order.
abbrev pub below : List ℕ → UnitMap → List (List ℕ × ℤ)
below prefix m = map (shown_below prefix) (after_all (text_units prefix) m)

-- n is the number of items that fit: they are at the start of the buffers, and the rest of the
-- buffers is unchanged. `size` is the number of bytes of their texts, and of the next text if only
-- that did not fit. So if there is room for a further word, no item is left exactly if `size` is at
-- most the number of bytes of the buffer.
pub record HasPage (items : List (List ℕ × ℤ)) (words words' : List Word) (texts texts' : List ℕ)
    (size n : ℕ) : Type 0 where
  pub count : n ≡ length (fitting (length words) (length texts) items)
  pub size_is : size ≡ length (texts_of (take (min (n + 1) (length words)) items))
  pub ended : n < length words → (size ≤ length texts) ↔ (n ≡ length items)
  pub words_are : words'
      ≡ written (words_from 0 (fitting (length words) (length texts) items)) words
  pub texts_are : texts'
      ≡ written (texts_of (fitting (length words) (length texts) items)) texts

-- If the bytes are a `text`: the number of items that fit, and the buffers hold these; or
-- `NoMemory` if an allocation failed. If they are not: `InvalidUtf8`. After an error nothing is written.
abbrev pub AnswersPage : Type 0 → List (List ℕ × ℤ) → List Word → List Word → List ℕ → List ℕ → ℕ
    → ℕ → ℤ → Type 0
AnswersPage text items words words' texts texts' size size' returned =
    (text × (n : ℕ) × (returned ≡ pos n) × HasPage items words words' texts texts' size' n)
    ⊎ (text × (returned ≡ error_number NoMemory) × (words' ≡ words) × (texts' ≡ texts)
    × (size' ≡ size))
    ⊎ (¬ text × (returned ≡ error_number InvalidUtf8) × (words' ≡ words) × (texts' ≡ texts)
    × (size' ≡ size))
