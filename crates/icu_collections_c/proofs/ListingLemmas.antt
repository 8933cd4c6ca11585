-- Entries that are visited one after another, and those that fit.
use Rattle.std.proofs.Common.{◌≡◌, ◌∙◌, refl, sym, ap, ℕ, ℤ, suc, ◌+◌, ◌-◌, ◌^◌, ◌<◌, ◌≤◌, min, ◌⊎◌, inl, inr, Bool, true, false, cond, ◌&&◌, nat_le, List, [], ◌∷◌, ◌++◌, length, arith}
use Rattle.std.specs.Prelude.{nat_lt}
use Rattle.std.proofs.lemmas.Bool.{cases_lt}
use Rattle.std.proofs.lemmas.Bool.Decides.{nat_tests}
use Rattle.std.proofs.lemmas.Grind.{flat_map-append}
use Rattle.std.proofs.lemmas.List.{append-nil, length-append}
use Rattle.icu_collections_c.specs.Listing.{fitting, texts_of, words_from}
use Rattle.icu_collections_c.specs.Inside.Listed.{HasSameRoom, IsKept, IsKeptOut, IsListingOf}
use Rattle.icu_collections_c.specs.declared.listing.Listing.{Listing}
use Rattle.icu_collections_c.specs.declared.listing.Word.{Word}

abbrev Item : Type 0
Item = List ℕ × ℤ

-- One more item fits after these.
abbrev has_room : ℕ → ℕ → List Item → Item → Bool
has_room words bytes es e = nat_lt (length es) words && nat_le (length (texts_of es) + length e.0) bytes

room-first : (words bytes : ℕ) (e : Item) → (nat_lt 0 words && nat_le (length e.0) bytes)
    ≡ (nat_lt 0 words && nat_le (0 + length e.0) bytes)
room-first words bytes e = ap (λ n. nat_lt 0 words && nat_le n bytes) (omega arith)

tests_more : (words bytes x n t e : ℕ) → 0 < words → x ≤ bytes
    → (nat_lt n (words - 1) && nat_le (t + e) (bytes - x)) ≡ (nat_lt (suc n) words && nat_le (x + t + e) bytes)
tests_more words bytes x n t e l m = grind (arith, nat_tests)

tests_none : (words bytes x n t e : ℕ) → (nat_lt 0 words && nat_le x bytes) ≡ false
    → (nat_lt (suc n) words && nat_le (x + t + e) bytes) ≡ false
tests_none words bytes x n t e h = grind (arith, nat_tests)

tests_yes : (words bytes x : ℕ) → (nat_lt 0 words && nat_le x bytes) ≡ true → (0 < words) × (x ≤ bytes)
tests_yes words bytes x h = (grind (arith, nat_tests), grind (arith, nat_tests))

tests_true : (words bytes n t : ℕ) → n < words → t ≤ bytes → (nat_lt n words && nat_le t bytes) ≡ true
tests_true words bytes n t l m = grind (arith, nat_tests)

tests_false : (words bytes n t : ℕ) → (words ≤ n) ⊎ (bytes < t) → (nat_lt n words && nat_le t bytes) ≡ false
tests_false words bytes n t (inl h) = grind (arith, nat_tests)
tests_false words bytes n t (inr h) = grind (arith, nat_tests)

long_texts : (x : Item) (es : List Item) (e : ℕ) → length (texts_of (x ∷ es)) + e ≡ length x.0 + length (texts_of es) + e
long_texts x es e = omega (arith, length-append x.0 (texts_of es))

-- One more item fits, or no more item does.
fitting-push : (words bytes : ℕ) (es : List Item) (e : Item)
    → fitting words bytes (es ++ e ∷ []) ≡ fitting words bytes es ++ cond (has_room words bytes es e) (e ∷ []) []
fitting-push words bytes [] e = ap (λ b. cond b (e ∷ []) []) (room-first words bytes e)
fitting-push words bytes (x ∷ es) e = by (nat_lt 0 words && nat_le (length x.0) bytes) refl
    (fitting-push (words - 1) (bytes - length x.0) es e)
  where
    by : (b : Bool) → (nat_lt 0 words && nat_le (length x.0) bytes) ≡ b
        → fitting (words - 1) (bytes - length x.0) (es ++ e ∷ [])
        ≡ fitting (words - 1) (bytes - length x.0) es ++ cond (has_room (words - 1) (bytes - length x.0) es e) (e ∷ []) []
        → cond b (x ∷ fitting (words - 1) (bytes - length x.0) (es ++ e ∷ [])) []
        ≡ cond b (x ∷ fitting (words - 1) (bytes - length x.0) es) [] ++ cond (has_room words bytes (x ∷ es) e) (e ∷ []) []
    by true h rest =
        let yes = tests_yes words bytes (length x.0) h in
        let same : has_room (words - 1) (bytes - length x.0) es e ≡ has_room words bytes (x ∷ es) e =
        tests_more words bytes (length x.0) (length es) (length (texts_of es)) (length e.0) yes.0 yes.1
        ∙ ap (λ n. nat_lt (suc (length es)) words && nat_le n bytes) (sym (long_texts x es (length e.0))) in
        ap (λ zs. x ∷ zs) (rest ∙ ap (λ b. fitting (words - 1) (bytes - length x.0) es ++ cond b (e ∷ []) []) same)
    by false h rest =
        let none : has_room words bytes (x ∷ es) e ≡ false =
        ap (λ n. nat_lt (suc (length es)) words && nat_le n bytes) (long_texts x es (length e.0))
        ∙ tests_none words bytes (length x.0) (length es) (length (texts_of es)) (length e.0) h in
        ap (λ b. cond b (e ∷ []) []) (sym none)

-- If there is enough room, all items fit.
pub fitting-all : (words bytes : ℕ) (es : List Item) → length es ≤ words → length (texts_of es) ≤ bytes → fitting words bytes es ≡ es
fitting-all words bytes [] l m = refl
fitting-all words bytes (x ∷ es) l m =
    let long = long_texts x es 0 in
    let yes = tests_true words bytes 0 (length x.0) (omega (arith, l)) (omega (arith, m, long)) in
    ap (λ b. cond b (x ∷ fitting (words - 1) (bytes - length x.0) es) []) yes
    ∙ ap (λ zs. x ∷ zs) (fitting-all (words - 1) (bytes - length x.0) es (omega (arith, l)) (omega (arith, m, long)))

abbrev pub word_at : ℕ → Item → Word
word_at start e = record { start = start; size = length e.0; value = e.1 }

pub words-push : (start : ℕ) (es : List Item) (e : Item)
    → words_from start (es ++ e ∷ []) ≡ words_from start es ++ word_at (start + length (texts_of es)) e ∷ []
words-push start [] e = ap (λ n. word_at n e ∷ []) (omega arith)
words-push start (x ∷ es) e =
    let there : start + length x.0 + length (texts_of es) ≡ start + length (texts_of (x ∷ es)) =
    omega (arith, length-append x.0 (texts_of es)) in
    ap (λ zs. word_at start x ∷ zs) (words-push (start + length x.0) es e
    ∙ ap (λ n. words_from (start + length x.0) es ++ word_at n e ∷ []) there)

pub texts-push : (es : List Item) (e : Item) → texts_of (es ++ e ∷ []) ≡ texts_of es ++ e.0
texts-push es e = flat_map-append (λ (x : Item). x.0) es (e ∷ []) ∙ ap (λ t. texts_of es ++ t) (append-nil e.0)

module _ (words bytes : ℕ) (es : List Item) (e : Item) where
  module _ (l : length es < words) (m : length (texts_of es) + length e.0 ≤ bytes) where
    fits_more : fitting words bytes (es ++ e ∷ []) ≡ es ++ e ∷ []
    fits_more =
        fitting-push words bytes es e
        ∙ ap (λ b. fitting words bytes es ++ cond b (e ∷ []) [])
        (tests_true words bytes (length es) (length (texts_of es) + length e.0) l m)
        ∙ ap (λ zs. zs ++ e ∷ []) (fitting-all words bytes es (omega (arith, l)) (omega (arith, m)))

    fits_before : fitting words bytes es ≡ es
    fits_before = fitting-all words bytes es (omega (arith, l)) (omega (arith, m))

    pub words-fit : words_from 0 (fitting words bytes (es ++ e ∷ [])) ≡ words_from 0 (fitting words bytes es) ++ word_at
        (length (texts_of es)) e ∷ []
    words-fit =
        ap (words_from 0) fits_more ∙ words-push 0 es e
        ∙ ap (λ n. words_from 0 es ++ word_at n e ∷ []) (omega arith)
        ∙ ap (λ zs. words_from 0 zs ++ word_at (length (texts_of es)) e ∷ []) (sym fits_before)

    pub texts-fit : texts_of (fitting words bytes (es ++ e ∷ [])) ≡ texts_of (fitting words bytes es) ++ e.0
    texts-fit = ap texts_of fits_more ∙ texts-push es e ∙ ap (λ zs. texts_of zs ++ e.0) (sym fits_before)

  -- If there is no room, what fits is unchanged.
  pub fitting-full : (words ≤ length es) ⊎ (bytes < length (texts_of es) + length e.0)
      → fitting words bytes (es ++ e ∷ []) ≡ fitting words bytes es
  fitting-full h =
      fitting-push words bytes es e
      ∙ ap (λ b. fitting words bytes es ++ cond b (e ∷ []) []) (tests_false words bytes (length es) (length (texts_of es) + length e.0) h)
      ∙ append-nil (fitting words bytes es)

-- ---- the counts

module _ (W B : ℕ) (items : List Item) (e : Item) (l m l' : Listing) (end : ℕ) (few : B < 2 ^ 63) (short : W < 2 ^ 63)
    (was : IsListingOf items W B l) (end-is : end ≡ min (l.size + length e.0) (2 ^ 64 - 1)) (same : HasSameRoom l m)
    (w : l'.words ≡ m.words) (t : l'.texts ≡ m.texts)
    (words_room : l'.most_words ≡ m.most_words) (bytes_room : l'.most_bytes ≡ m.most_bytes)
    (count : l'.count ≡ min (m.count + 1) (2 ^ 64 - 1)) (size : l'.size ≡ end) where
  long : length (texts_of (items ++ e ∷ [])) ≡ length (texts_of items) + length e.0
  long = ap length (texts-push items e) ∙ length-append (texts_of items) e.0

  with_words : l'.words.items ≡ words_from 0 (fitting W B (items ++ e ∷ [])) → l'.texts.items ≡ texts_of (fitting W B (items ++ e ∷ []))
      → IsListingOf (items ++ e ∷ []) W B l'
  with_words ws ts = record {
    words_room = words_room ∙ same.words_room ∙ was.words_room;
    bytes_room = bytes_room ∙ same.bytes_room ∙ was.bytes_room;
    words_are = ws;
    texts_are = ts;
    count_is = let more = length-append items (e ∷ []) in omega (arith, more, count, same.count_is, was.count_is);
    size_is = omega (arith, long, size, end-is, was.size_is);
  }

  listing-kept : l.count < W → end ≤ B → IsKept l e.0 e.1 m → IsListingOf (items ++ e ∷ []) W B l'
  listing-kept less within kept =
      let n : length items < W = omega (arith, less, short, was.count_is) in
      let b : length (texts_of items) + length e.0 ≤ B = omega (arith, within, few, end-is, was.size_is) in
      let at : l.size ≡ length (texts_of items) = omega (arith, b, few, was.size_is) in
      with_words
      (ap (λ ws. ws.items) w ∙ kept.words_are ∙ ap (λ ws. ws ++ word_at l.size e ∷ []) was.words_are
      ∙ ap (λ n. words_from 0 (fitting W B items) ++ word_at n e ∷ []) at ∙ sym (words-fit W B items e n b))
      (ap (λ ts. ts.items) t ∙ kept.texts_are ∙ ap (λ ts. ts ++ e.0) was.texts_are ∙ sym (texts-fit W B items e n b))

  listing-out : (W ≤ l.count) ⊎ (B < end) → IsKeptOut l m → IsListingOf (items ++ e ∷ []) W B l'
  listing-out full out =
      let no = fitting-full W B items e (past full) in
      with_words
      (ap (λ ws. ws.items) w ∙ out.words_are ∙ was.words_are ∙ ap (words_from 0) (sym no))
      (ap (λ ts. ts.items) t ∙ out.texts_are ∙ was.texts_are ∙ ap texts_of (sym no))
    where
      past : (W ≤ l.count) ⊎ (B < end) → (W ≤ length items) ⊎ (B < length (texts_of items) + length e.0)
      past (inl h) = inl (omega (arith, h, was.count_is))
      past (inr h) = inr (omega (arith, h, end-is, was.size_is))

  pub listing-more : (l.count < W → end ≤ B → IsKept l e.0 e.1 m) → ((W ≤ l.count) ⊎ (B < end) → IsKeptOut l m)
      → IsListingOf (items ++ e ∷ []) W B l'
  listing-more fits full = by (cases_lt l.count W) (cases_lt B end)
    where
      by : (l.count < W) ⊎ (W ≤ l.count) → (B < end) ⊎ (end ≤ B) → IsListingOf (items ++ e ∷ []) W B l'
      by (inl less) (inr within) = listing-kept less within (fits less within)
      by (inl less) (inl past) = listing-out (inr past) (full (inr past))
      by (inr all) other = listing-out (inl all) (full (inl all))
