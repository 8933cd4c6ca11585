-- The first character of a text whose value a closure accepts, and the characters before it.
use Rattle.std.specs.Prelude.{◌≡◌, ℕ, Bool, true, false, List, [], ◌∷◌, ◌++◌, length, Some}
use Rattle.std.specs.List.{All}
use Rattle.std.specs.Str.{chars, encode_utf8_all}
use Rattle.icu_trie.specs.Parts.{Parts, trie_value}
use Rattle.icu_trie_text.specs.declared.found.Found.{Found}

module _ {F T : Type 0} (post : F → T → Bool → Type 0) (f : F) (trie : Parts T) where
  -- f returns `answer` for the value of the character.
  abbrev pub AnswersOf : Bool → ℕ → Type 0
  AnswersOf answer c = (value : T) × (trie_value trie c ≡ Some value) × post f value answer

  -- f accepts the value of each of these characters.
  abbrev pub AreAccepted : List ℕ → Type 0
  AreAccepted cs = All (AnswersOf true) cs

  -- f rejects the value of each of these characters.
  abbrev pub AreRefused : List ℕ → Type 0
  AreRefused cs = All (AnswersOf false) cs

  -- The character is in the text at this offset, f accepts its value, and f rejects the values of
  -- all characters before it.
  pub record IsFirstAccepted (text : List ℕ) (found : Found T) : Type 0 where
    pub before : List ℕ
    pub after : List ℕ
    pub characters : chars text ≡ before ++ found.character ∷ after
    pub offset : found.offset ≡ length (encode_utf8_all before)
    pub refused : AreRefused before
    pub value : trie_value trie found.character ≡ Some found.value
    pub accepted : post f found.value true

  -- f rejects the value of the first of the characters, if there is one.
  abbrev pub IsFirstRefused : List ℕ → Type 0
  IsFirstRefused [] = Unit {0}
  IsFirstRefused (c ∷ cs) = AnswersOf false c

  -- The first `end` bytes of the text are its longest prefix in which f accepts the value of every
  -- character.
  pub record IsAcceptedFront (text : List ℕ) (end : ℕ) : Type 0 where
    pub front : List ℕ
    pub after : List ℕ
    pub characters : chars text ≡ front ++ after
    pub end_is : end ≡ length (encode_utf8_all front)
    pub accepted : AreAccepted front
    pub longest : IsFirstRefused after
