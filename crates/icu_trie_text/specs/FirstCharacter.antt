-- The first character of a text, and its value.
use Rattle.std.specs.Prelude.{◌≡◌, ℕ, List, ◌∷◌, ◌++◌, Some, encode_utf8}
use Rattle.std.specs.Str.{chars}
use Rattle.icu_trie.specs.Parts.{Parts, trie_value}

-- The text is this character followed by the rest.
pub record IsFirstCharacter (text : List ℕ) (c : ℕ) (rest : List ℕ) : Type 0 where
  pub bytes : text ≡ encode_utf8 c ++ rest
  pub characters : chars text ≡ c ∷ chars rest

-- The item is the first character of the text and its value in the trie.
pub record IsFirstValue {T : Type 0} (trie : Parts T) (text : List ℕ) (item : ℕ × T)
    (rest : List ℕ) : Type 0 where
  pub first : IsFirstCharacter text item.0 rest
  pub value : trie_value trie item.0 ≡ Some item.1
