-- The JSON of a trie has whole numbers alone.
use Rattle.std.proofs.Common.{◌≡◌, ℕ, List, [], ◌∷◌, map, false, refl, ◌∙◌, ap}
use Rattle.serde_json.specs.Data.{Data, number, unsigned}
use Rattle.serde_json.specs.View.{items_of}
use Rattle.serde_json.specs.Written.{compact_text, has_float, items_have_float}
use Rattle.icu_trie.specs.Parts.{Parts}
use Rattle.icu_trie_formats.specs.TrieJson.{json_of}

numbers-no_float : (ns : List ℕ) → items_have_float (items_of (map (λ n. number (unsigned n)) ns)) ≡ false
numbers-no_float [] = refl
numbers-no_float (n ∷ ns) = numbers-no_float ns

pub json_of-no_float : (t : Parts ℕ) → has_float (json_of (λ n. n) t) ≡ false
json_of-no_float t = rw (numbers-no_float (map (λ n. n) t.values), numbers-no_float t.index) refl

pub text_of_json : (t : Parts ℕ) (v : Data) (bytes : List ℕ) → v ≡ json_of (λ n. n) t → (has_float v ≡ false → bytes ≡ compact_text v)
    → bytes ≡ compact_text (json_of (λ n. n) t)
text_of_json t v bytes is text = text (ap has_float is ∙ json_of-no_float t) ∙ ap compact_text is
