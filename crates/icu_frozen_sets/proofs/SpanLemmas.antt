-- The loop of a span over the bytes of a text. What it passes is `Passed` of icu_invlist.
use Rattle.std.proofs.Common.{◌≡◌, ◌∙◌, sym, ap, ℕ, ◌+◌, ◌<◌, ◌≤◌, slice_index, List, ◌++◌, length, drop, Bool, true, arith, encode_utf8}
use Rattle.std.specs.Str.{IsCharBoundary, IsUtf8}
use Rattle.std.proofs.lemmas.List.{drop_more}
use Rattle.std.proofs.lemmas.Str.{IsUtf8-drop, encode_ascii}
use Rattle.icu_invlist.proofs.CallerLemmas.{front, Passed, passed_more}

-- Two stretches of characters, one after the other.
pub passed_both : {p : ℕ → Bool} {text : List ℕ} {start mid : ℕ} → Passed p text start mid → (end : ℕ) → IsUtf8 text → mid ≤ end
    → IsCharBoundary text end → end + front p (drop end text) ≡ mid + front p (drop mid text) → Passed p text start end
passed_both {text = text} s end u order b e = record {
  utf8 = IsUtf8-drop text end u b;
  order = omega (arith, s.order);
  within = b.0;
  so_far = e ∙ s.so_far;
}

-- An ASCII byte is a character.
ascii_step : (text : List ℕ) (n : ℕ) → n < length text → slice_index text n < 128
    → drop n text ≡ encode_utf8 (slice_index text n) ++ drop (n + 1) text
ascii_step text n h a = drop_more text n 0 h ∙ ap (λ (bs : List ℕ). bs ++ drop (n + 1) text) (sym (encode_ascii (slice_index text n) a))

pub passed_ascii : {p : ℕ → Bool} {text : List ℕ} {start n : ℕ} → Passed p text start n → n < length text → slice_index text n < 128
    → p (slice_index text n) ≡ true → Passed p text start (n + 1)
passed_ascii {text = text} {n = n} s h a y = passed_more s (n + 1) (slice_index text n) (omega arith) (ascii_step text n h a) y
