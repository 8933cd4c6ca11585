-- The return values of the functions for spans, and the error if there is no text.
use Rattle.std.specs.Prelude.{◌≡◌, ◌⊎◌, ℕ, ℤ, pos, ◌<◌, Bool, List, length}
use Rattle.std.specs.List.{take_while}
use Rattle.std.specs.Str.{IsCharBoundary, IsUtf8, StartsWithNoChar, chars, encode_utf8_all}
use mathlib.Core.Bool.{beq}
use Rattle.icu_utf.specs.Utf8.{EndsWithNoChar}
use Rattle.icu_frozen_sets.specs.LongestSpans.{IsSpan, IsSpanBack}
use Rattle.icu_collections_c.specs.Status.{error_number}
use Rattle.icu_collections_c.specs.declared.error.Error.TheVariants.{InvalidUtf8}

module _ (is_in : ℕ → Bool) (held : Bool) where
  -- `InvalidUtf8` exactly if the bytes are not empty and do not start with a character. Otherwise the
  -- length of the span.
  abbrev pub AnswersSpan : List ℕ → ℤ → Type 0
  AnswersSpan bytes returned =
      ((0 < length bytes) × StartsWithNoChar bytes × (returned ≡ error_number InvalidUtf8))
      ⊎ (¬ ((0 < length bytes) × StartsWithNoChar bytes)
      × ((n : ℕ) × (returned ≡ pos n) × IsSpan is_in held bytes n))

  -- `InvalidUtf8` exactly if the bytes are not empty and do not end with a character. Otherwise the
  -- offset at which the span from the end starts.
  abbrev pub AnswersSpanBack : List ℕ → ℤ → Type 0
  AnswersSpanBack bytes returned =
      ((0 < length bytes) × EndsWithNoChar bytes × (returned ≡ error_number InvalidUtf8))
      ⊎ (¬ ((0 < length bytes) × EndsWithNoChar bytes)
      × ((n : ℕ) × (returned ≡ pos n) × IsSpanBack is_in held bytes n))

  -- For UTF-8: the size of the longest prefix of such characters. It ends at a character boundary.
  abbrev pub AnswersTextSpan : List ℕ → ℤ → Type 0
  AnswersTextSpan bytes returned = IsUtf8 bytes → (n : ℕ) × (returned ≡ pos n)
      × (n ≡ length (encode_utf8_all (take_while (λ c. beq (is_in c) held) (chars bytes))))
      × IsCharBoundary bytes n

-- For UTF-8: an offset, which is a character boundary.
abbrev pub AnswersTextSpanBack : List ℕ → ℤ → Type 0
AnswersTextSpanBack bytes returned =
    IsUtf8 bytes → (n : ℕ) × (returned ≡ pos n) × IsCharBoundary bytes n
