-- The longest prefix of a text whose characters have a value.
use Rattle.std.specs.Prelude.{◌≡◌, ◌≢◌, ℕ, List, [], ◌∷◌, ◌++◌, length, Some}
use Rattle.std.specs.List.{All}
use Rattle.std.specs.Str.{chars, encode_utf8_all}
use Rattle.icu_collections.specs.CodePointTrie.{Parts, trie_value}

-- The first of the characters, if there is one, does not have the value.
abbrev pub StartsOtherwise : {T : Type 0} → Parts T → T → List ℕ → Type 0
StartsOtherwise trie value [] = Unit {0}
StartsOtherwise trie value (c ∷ cs) = trie_value trie c ≢ Some value

-- The first `end` bytes of the text are its longest prefix whose characters all have the value.
pub record IsLongestWithValue {T : Type 0} (trie : Parts T) (value : T) (text : List ℕ) (end : ℕ)
    : Type 0 where
  pub front : List ℕ
  pub after : List ℕ
  pub characters : chars text ≡ front ++ after
  pub end_is : end ≡ length (encode_utf8_all front)
  pub all : All (λ c. trie_value trie c ≡ Some value) front
  pub longest : StartsOtherwise trie value after
