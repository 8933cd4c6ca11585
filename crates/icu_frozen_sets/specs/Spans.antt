-- The spans of a text: its longest pieces whose characters are all in a set, or all outside it.
use Rattle.std.specs.Prelude.{◌≡◌, ℕ, ◌<◌, Bool, not, List, [], ◌∷◌, ◌++◌, length, Option, MatchOption}
use Rattle.std.specs.List.{All, flat_map, take_while}
use Rattle.std.specs.Str.{chars, encode_utf8_all}
use mathlib.Core.Bool.{beq}
use Rattle.icu_invlist.specs.InversionList.{holds}
use Rattle.icu_frozen_sets.specs.declared.spans.Span.{Span}

-- The boundaries of a set, and the text, or the rest of it, that is cut by the set.
pub record TextToCut : Type 0 where
  pub set : List ℕ
  pub text : List ℕ

-- The longest prefix of a text whose characters are all in the set, or all outside it if `is_held`
-- is false.
abbrev pub front_of : List ℕ → Bool → List ℕ → List ℕ
front_of set is_held text =
    encode_utf8_all (take_while (λ c. beq (holds set c) is_held) (chars text))

-- The span is the longest such prefix of the text and is not empty. The rest of the text follows
-- it.
pub record IsFirstSpan (set text : List ℕ) (span : Span) (rest : List ℕ) : Type 0 where
  pub joined : text ≡ span.text.now ++ rest
  pub some : 0 < length span.text.now
  pub longest : span.text.now ≡ front_of set span.is_held text

-- One call of `next` yields the first span of the text that is left, and the rest of the text
-- remains. If no text is left, it yields nothing.
pub record GivesSpan (old : TextToCut) (given : Option Span) (new : TextToCut) : Type 0 where
  pub set : new.set ≡ old.set
  pub steps : MatchOption given ((old.text ≡ []) × (new.text ≡ []))
      (λ span. IsFirstSpan old.set old.text span new.text)

-- The span is not empty, and the membership of all its characters is `is_held`.
pub record IsOfOneKind (set : List ℕ) (span : Span) : Type 0 where
  pub some : 0 < length span.text.now
  pub alike : All (λ c. holds set c ≡ span.is_held) (chars span.text.now)

-- Of two neighbouring spans, one is in the set and the other is not.
abbrev pub AreAlternating : List Span → Type 0
AreAlternating [] = Unit {0}
AreAlternating (a ∷ []) = Unit {0}
AreAlternating (a ∷ b ∷ spans) = (b.is_held ≡ not a.is_held) × AreAlternating (b ∷ spans)

-- The spans of a whole text. Joined, they are the text. Each has characters of one kind and
-- neighbours differ, so none could be longer.
pub record AreSpans (set text : List ℕ) (spans : List Span) : Type 0 where
  pub joined : flat_map (λ span. span.text.now) spans ≡ text
  pub alike : All (IsOfOneKind set) spans
  pub alternating : AreAlternating spans
