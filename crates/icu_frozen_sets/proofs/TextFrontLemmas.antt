-- The longest valid UTF-8 prefix of bytes.
use Rattle.std.proofs.Common.{◌≡◌, ◌∙◌, sym, subst, refl, ℕ, zero, suc, ◌<◌, ◌≤◌, Bool, true, false, List, length, take, arith, inl, inr}
use Rattle.std.specs.List.{take_while}
use Rattle.std.specs.Str.{IsUtf8, chars, encode_utf8_all, is_utf8}
use mathlib.Core.Bool.{beq}
use Rattle.std.proofs.lemmas.Bool.{cases_lt, true≢false}
use Rattle.std.proofs.lemmas.List.{length-take-le, take-take}
use Rattle.std.proofs.lemmas.Str.{IsUtf8-from_is_utf8, IsUtf8-nil, is_utf8-from_IsUtf8}
use Rattle.icu_frozen_sets.specs.LongestSpans.{AllHeld, IsSpan}
use Rattle.icu_frozen_sets.specs.TextFronts.{IsTextUpTo}
use Rattle.icu_frozen_sets.proofs.LongestSpanLemmas.{text_span}

text_below : (bytes : List ℕ) (k : ℕ) → k ≤ length bytes → ((m : ℕ) → k < m → m ≤ length bytes → ¬ (IsUtf8 (take m bytes)))
    → (n : ℕ) × IsTextUpTo bytes n
text_below bytes zero within none = (0, record { within = within; front = IsUtf8-nil; longest = none })
text_below bytes (suc k) within none = by (is_utf8 (take (suc k) bytes)) refl (text_below bytes k (omega (arith, within)))
  where
    by : (b : Bool) → is_utf8 (take (suc k) bytes) ≡ b
        → (((m : ℕ) → k < m → m ≤ length bytes → ¬ (IsUtf8 (take m bytes))) → (n : ℕ) × IsTextUpTo bytes n) → (n : ℕ) × IsTextUpTo bytes n
    by true e below = (suc k, record { within = within; front = IsUtf8-from_is_utf8 _ e; longest = none })
    by false e below = below (λ m above there u. elim (cases_lt (suc k) m) [
      | inl more ↦ none m more there u
      | inr less ↦
          let same : m ≡ suc k = omega (arith, above, less) in
          true≢false (sym (is_utf8-from_IsUtf8 _ (subst (λ i. IsUtf8 (take i bytes)) same u)) ∙ e)
    ])

-- There is one.
pub text_front : (bytes : List ℕ) → (n : ℕ) × IsTextUpTo bytes n
text_front bytes = text_below bytes (length bytes) (omega arith) (λ m above there u. omega (arith, above, there))

-- A span of the bytes is one of that prefix.
pub span_of_front : (is_in : ℕ → Bool) (held : Bool) (bytes : List ℕ) (n : ℕ) → IsSpan is_in held bytes n
    → (end : ℕ) × IsTextUpTo bytes end
    × (n ≡ length (encode_utf8_all (take_while (λ c. beq (is_in c) held) (chars (take end bytes)))))
span_of_front is_in held bytes n s =
    let end : ℕ = (text_front bytes).0 in
    let front : IsTextUpTo bytes end = (text_front bytes).1 in
    let long : length (take end bytes) ≡ end = length-take-le end bytes front.within in
    let below : n ≤ end = elim (cases_lt end n) [
      | inl l ↦ absurd (front.longest n l s.within s.alike.0)
      | inr l ↦ l
    ] in
    let same : (m : ℕ) → m ≤ end → take m (take end bytes) ≡ take m bytes = λ m l. take-take m end bytes l in
    let span : IsSpan is_in held (take end bytes) n = record {
      within = omega (arith, below, long);
      alike = subst (AllHeld is_in held) (sym (same n below)) s.alike;
      longest = λ m h l a. s.longest m h (omega (arith, l, long, front.within))
          (subst (AllHeld is_in held) (same m (omega (arith, l, long))) a);
    } in
    (end, front, (text_span is_in held (take end bytes) n span front.front).0)
