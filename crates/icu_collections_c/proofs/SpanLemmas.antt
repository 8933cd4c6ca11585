-- What the functions for spans return, from the span that was found.
use Rattle.std.proofs.Common.{◌≡◌, refl, ℕ, ◌^◌, ◌<◌, List, length, drop, get_or, Bool, inl, inr, to_z, w64}
use Rattle.std.specs.Prelude.{ℤ}
use Rattle.std.specs.Str.{IsUtf8, StartsWithNoChar}
use Rattle.std.proofs.lemmas.Int.{to_z_pos}
use Rattle.icu_utf.specs.Utf8.{EndsWithNoChar}
use Rattle.icu_utf.proofs.CallerLemmas.{part_of_ascii}
use Rattle.icu_frozen_sets.specs.LongestSpans.{IsSpan, IsSpanBack}
use Rattle.icu_frozen_sets.proofs.CallerLemmas as lemma
use Rattle.icu_collections_c.specs.Spans.{AnswersSpan, AnswersSpanBack, AnswersTextSpan, AnswersTextSpanBack}

module _ (is_in : ℕ → Bool) (held : Bool) (bytes : List ℕ) where
  pub answers_span : (n : ℕ) → n < 2 ^ 63 → IsSpan is_in held bytes n → (0 < length bytes → StartsWithNoChar bytes → ⊥)
      → AnswersSpan is_in held bytes (to_z w64 n)
  answers_span n small s first = rw (to_z_pos w64 n small) (inr (λ h. first h.0 h.1, (n, refl, s)))

  pub answers_some : (n : ℕ) → n < 2 ^ 63 → IsSpan is_in held bytes n → 0 < n → AnswersSpan is_in held bytes (to_z w64 n)
  answers_some n small s some = answers_span n small s (λ more none. lemma.begins is_in held bytes n s.within s.alike some none)

  pub answers_back : (n : ℕ) → n < 2 ^ 63 → IsSpanBack is_in held bytes n → (0 < length bytes → EndsWithNoChar bytes → ⊥)
      → AnswersSpanBack is_in held bytes (to_z w64 n)
  answers_back n small s last = rw (to_z_pos w64 n small) (inr (λ h. last h.0 h.1, (n, refl, s)))

  pub answers_some_back : (n : ℕ) → n < 2 ^ 63 → IsSpanBack is_in held bytes n → n < length bytes
      → AnswersSpanBack is_in held bytes (to_z w64 n)
  answers_some_back n small s some = answers_back n small s (λ more none. lemma.ends is_in held bytes n s.within s.alike some none)

  -- What a span says of UTF-8.
  pub text_span : (r : ℤ) → AnswersSpan is_in held bytes r → AnswersTextSpan is_in held bytes r
  text_span r (inl fault) u = absurd (lemma.text_starts bytes u fault.0 fault.1)
  text_span r (inr found) u =
      let n = found.1.0 in
      let t = lemma.text_span is_in held bytes n found.1.2 u in
      (n, found.1.1, t.0, t.1)

  pub text_span_back : (r : ℤ) → AnswersSpanBack is_in held bytes r → AnswersTextSpanBack bytes r
  text_span_back r (inl fault) u = absurd (lemma.text_ends bytes u fault.0 fault.1)
  text_span_back r (inr found) u =
      let n = found.1.0 in
      (n, found.1.1, lemma.text_span_back is_in held bytes n found.1.2 u)

-- An ASCII byte is a character.
pub ascii_starts : (bytes : List ℕ) → 0 < length bytes → get_or bytes 0 0 < 128 → StartsWithNoChar bytes → ⊥
ascii_starts bytes some low none =
    let part = part_of_ascii bytes some low in none (get_or bytes 0 0) (drop 1 bytes) part.0 part.2
