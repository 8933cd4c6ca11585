-- A cursor that passes the characters of bytes that may be ill-formed UTF-8, one after another.
use Rattle.std.proofs.Common.{◌≡◌, ◌∙◌, refl, sym, ap, subst, ℕ, ℤ, zero, suc, ◌+◌, ◌<◌, ◌≤◌, true, List, [], ◌∷◌, ◌++◌, Option, Some, None, length, take, drop, get_or, append-nil, append_assoc, length-append, arith, inl, inr, encode_utf8}
use Rattle.std.specs.Prelude.{IfSome, encode_utf8_all}
use Rattle.std.specs.Char.{IsScalar}
use Rattle.std.specs.Char.Escape.{encode_utf16}
use Rattle.std.specs.List.{flat_map}
use Rattle.std.specs.Str.{IsUtf8, StartsWithNoChar, all_scalars, chars}
use Rattle.std.proofs.lemmas.Bool.{and_parts, cases_lt}
use Rattle.std.proofs.lemmas.List.{drop_all, drop_at, drop_more, length-take-le, take-append-drop, take_at, take_more}
use Rattle.std.proofs.lemmas.Str.{IsCharBoundary-from_take, IsUtf8-append, IsUtf8-encode, IsUtf8-nil, encode_same, encodes-append, encodes-chars, length-encode, length-le-encodes, scalars-chars}
use Rattle.icu_frozen_sets.specs.TextFronts.{IsTextUpTo}
use Rattle.icu_frozen_sets.proofs.CallerLemmas.{text_front}
use Rattle.icu_char16trie.specs.Grammar.{IsTrieOf}
use Rattle.icu_char16trie.specs.Matches.{LongestWithin, front_units, in_bytes, match_at}
use Rattle.icu_char16trie.specs.Steps.{StepsAlong}
use Rattle.icu_char16trie.specs.UnitMap.{UnitMap, value_of}
use Rattle.icu_char16trie.specs.UnitPlaces.{At, HasPassed, value_at}
use Rattle.icu_char16trie.specs.declared.place.Place.TheVariants.{Node}
use Rattle.icu_char16trie.proofs.CallerLemmas.{along_then, bytes_next, units_more, units_next}
use Rattle.icu_collections_c.specs.Inside.TextSteps.{PassesCharacter, Stops, last_of}
use Rattle.icu_collections_c.specs.UnitPrefixes.{AreValued, bytes_before}
use Rattle.icu_collections_c.specs.UnitTries.{EndsAtBoundary}
use Rattle.icu_utf.proofs.CallerLemmas.{size_of}
use Rattle.icu_collections_c.proofs.UnitPrefixLemmas.{AllValued, HasAll, HasLooked, few-looked, looked_all, looked_ends, looked_first, looked_next}

-- The characters of the longest prefix that is UTF-8.
abbrev pub chars_of : List ℕ → List ℕ
chars_of bytes = chars (take (text_front bytes).0 bytes)

-- ---- characters and their bytes
scalar_at : (cs : List ℕ) (k : ℕ) → all_scalars cs ≡ true → k < length cs → IsScalar (get_or cs k 0)
scalar_at [] k s less = absurd (omega (arith, less))
scalar_at (c ∷ cs) zero s less = (and_parts _ _ s).0
scalar_at (c ∷ cs) (suc k) s less = scalar_at cs k (and_parts _ _ s).1 (omega (arith, less))

front_utf8 : (cs : List ℕ) (k : ℕ) → all_scalars cs ≡ true → IsUtf8 (encode_utf8_all (take k cs))
front_utf8 cs zero s = IsUtf8-nil
front_utf8 [] (suc k) s = IsUtf8-nil
front_utf8 (c ∷ cs) (suc k) s =
    let parts = and_parts _ _ s in
    IsUtf8-append (encode_utf8 c) (encode_utf8_all (take k cs)) (IsUtf8-encode c parts.0) (front_utf8 cs k parts.1)

module _ (bytes : List ℕ) (n : ℕ) (t : IsTextUpTo bytes n) where
  abbrev cs : List ℕ
  cs = chars (take n bytes)

  -- The first k characters of the text, the other ones, and what follows the text.
  parts_at : (k : ℕ) → bytes ≡ encode_utf8_all (take k cs) ++ (encode_utf8_all (drop k cs) ++ drop n bytes)
  parts_at k =
      let both = encodes-append (take k cs) (drop k cs) in
      let text = ap encode_utf8_all (take-append-drop k cs) ∙ encodes-chars (take n bytes) t.front in
      sym (take-append-drop n bytes) ∙ ap (λ (bs : List ℕ). bs ++ drop n bytes) (sym text ∙ both)
      ∙ append_assoc (encode_utf8_all (take k cs)) (encode_utf8_all (drop k cs)) (drop n bytes)

  rest_at : (k : ℕ) → drop (bytes_before cs k) bytes ≡ encode_utf8_all (drop k cs) ++ drop n bytes
  rest_at k =
      ap (λ (bs : List ℕ). drop (bytes_before cs k) bs) (parts_at k)
      ∙ drop_at (encode_utf8_all (take k cs)) (encode_utf8_all (drop k cs) ++ drop n bytes) (bytes_before cs k) refl

  -- The bytes from the next character on.
  next_bytes : (k : ℕ) → k < length cs
      → drop (bytes_before cs k) bytes ≡ encode_utf8 (get_or cs k 0) ++ (encode_utf8_all (drop (k + 1) cs) ++ drop n bytes)
  next_bytes k less =
      rest_at k ∙ ap (λ (ds : List ℕ). encode_utf8_all ds ++ drop n bytes) (drop_more cs k 0 less)
      ∙ append_assoc (encode_utf8 (get_or cs k 0)) (encode_utf8_all (drop (k + 1) cs)) (drop n bytes)

  -- No character follows the text.
  none_follows : (c : ℕ) (more : List ℕ) → IsScalar c → drop n bytes ≡ encode_utf8 c ++ more → ⊥
  none_follows c more s e =
      let front : List ℕ = take n bytes ++ encode_utf8 c in
      let parts : bytes ≡ front ++ more =
      sym (take-append-drop n bytes) ∙ ap (λ (bs : List ℕ). take n bytes ++ bs) e
      ∙ sym (append_assoc (take n bytes) (encode_utf8 c) more) in
      let same : take (length front) bytes ≡ front =
      ap (λ (bs : List ℕ). take (length front) bs) parts ∙ take_at front more (length front) refl in
      let long = length-append (take n bytes) (encode_utf8 c) in
      t.longest (length front) (omega (arith, long, length-take-le n bytes t.within, (size_of c).0))
      (omega (arith, ap (λ (bs : List ℕ). length bs) parts, length-append front more))
      (subst IsUtf8 (sym same) (IsUtf8-append (take n bytes) (encode_utf8 c) t.front (IsUtf8-encode c s)))

  -- A character that follows the first k characters is the next one.
  next_char : (k c : ℕ) (more : List ℕ) → IsScalar c → drop (bytes_before cs k) bytes ≡ encode_utf8 c ++ more
      → (k < length cs) × (take (k + 1) cs ≡ take k cs ++ c ∷ [])
  next_char k c more s e = elim (cases_lt k (length cs)) [
    | inl less ↦
        let rest : List ℕ = encode_utf8_all (drop (k + 1) cs) ++ drop n bytes in
        let same = encode_same (get_or cs k 0) c rest more (sym (next_bytes k less) ∙ e) in
        (less, take_more cs k 0 less ∙ ap (λ (d : ℕ). take k cs ++ d ∷ []) same.0)
    | inr all ↦
        let none = ap (λ (ds : List ℕ). encode_utf8_all ds ++ drop n bytes) (drop_all k cs all) in
        absurd (none_follows c more s (sym (rest_at k ∙ none) ∙ e))
  ]

  -- If no character follows the first k, they are all.
  no_char : (k : ℕ) → k ≤ length cs → StartsWithNoChar (drop (bytes_before cs k) bytes) → k ≡ length cs
  no_char k within none = elim (cases_lt k (length cs)) [
    | inl less ↦
        let s = scalar_at cs k (scalars-chars (take n bytes) t.front) less in
        absurd (none (get_or cs k 0) (encode_utf8_all (drop (k + 1) cs) ++ drop n bytes) s (next_bytes k less))
    | inr all ↦ omega (arith, within, all)
  ]

  -- The bytes of the first k characters are UTF-8.
  ends_at : (k : ℕ) → EndsAtBoundary bytes (bytes_before cs k)
  ends_at k =
      let front : List ℕ = encode_utf8_all (take k cs) in
      let rest : List ℕ = encode_utf8_all (drop k cs) ++ drop n bytes in
      let same : take (bytes_before cs k) bytes ≡ front =
      ap (λ (bs : List ℕ). take (bytes_before cs k) bs) (parts_at k) ∙ take_at front rest (bytes_before cs k) refl in
      let long = ap (λ (bs : List ℕ). length bs) (parts_at k) in
      let within : bytes_before cs k ≤ length bytes = omega (arith, long, length-append front rest) in
      let utf8 = subst IsUtf8 (sym same) (front_utf8 cs k (scalars-chars (take n bytes) t.front)) in
      (within, utf8, λ all. IsCharBoundary-from_take bytes (bytes_before cs k) all within utf8)

  -- There are no more characters than bytes.
  few_chars : length cs ≤ length bytes
  few_chars =
      let text = ap (λ (bs : List ℕ). length bs) (encodes-chars (take n bytes) t.front) in
      omega (arith, length-le-encodes cs, text, length-take-le n bytes t.within, t.within)

-- ---- the cursor
-- It has passed the first k characters of the text, which take `end` bytes. Found holds for the prefixes with a value among these.
pub record HasWalked (units bytes : List ℕ) (end : ℕ) (cursor : At) (Found : List (ℕ × ℤ) → Type 0) : Type 0 where
  pub k : ℕ
  pub within : k ≤ length (chars_of bytes)
  pub inside : end ≤ length bytes
  pub end_is : end ≡ bytes_before (chars_of bytes) k
  pub looked : HasLooked units (front_units (chars_of bytes)) (bytes_before (chars_of bytes)) k cursor Found

module _ (units bytes : List ℕ) where
  abbrev all : List ℕ
  all = chars_of bytes

  -- Before the first character.
  pub walked_first : (cursor : At) (Found : List (ℕ × ℤ) → Type 0) (v : Option ℤ) → cursor.units ≡ units → cursor.place ≡ Node 0
      → ((m : UnitMap) → IsTrieOf units m → HasPassed cursor m []) → v ≡ value_at cursor.units cursor.place
      → ((m : UnitMap) (w : List ℕ) → HasPassed cursor m w → v ≡ value_of m w) → Found (match_at 0 v)
      → HasWalked units bytes 0 cursor Found
  walked_first cursor Found v same at root value values found = record {
    k = 0;
    within = omega arith;
    inside = omega arith;
    end_is = refl;
    looked = looked_first units (front_units all) (bytes_before all) cursor Found v same refl at root value values found;
  }

  module _ (end : ℕ) (cursor : At) (Found : List (ℕ × ℤ) → Type 0) (was : HasWalked units bytes end cursor Found) where
    -- After one more character.
    module _ (next : ℕ) (new : At) (p : PassesCharacter bytes end next cursor new) where
      one_more : (was.k < length all) × (take (was.k + 1) all ≡ take was.k all ++ p.c ∷ [])
      one_more =
          next_char bytes (text_front bytes).0 (text_front bytes).1 was.k p.c (drop next bytes) p.scalar
          (subst (λ i. drop i bytes ≡ encode_utf8 p.c ++ drop next bytes) was.end_is p.bytes_are)

      -- There are no more prefixes with a value before it than bytes.
      pub few_found : length was.looked.xs ≤ length bytes
      few_found = omega (arith, few-looked was.looked, one_more.0, few_chars bytes (text_front bytes).0 (text_front bytes).1)

      next_units : front_units all (was.k + 1) ≡ front_units all was.k ++ encode_utf16 p.c
      next_units = ap (flat_map encode_utf16) one_more.1 ∙ units_next (take was.k all) p.c

      next_end : next ≡ bytes_before all (was.k + 1)
      next_end =
          let size = ap (λ (ds : List ℕ). length (encode_utf8_all ds)) one_more.1 in
          omega (arith, p.next_is, was.end_is, size, bytes_next (take was.k all) p.c, length-encode p.c)

      next_steps : StepsAlong units (Node 0) (front_units all (was.k + 1)) new.place
      next_steps =
          let on = subst (λ z. StepsAlong z cursor.place (encode_utf16 p.c) new.place) was.looked.units_are p.passes.exact in
          rw next_units (along_then units (Node 0) cursor.place new.place (front_units all was.k) (encode_utf16 p.c) was.looked.steps on)

      pub walked_next : (Found' : List (ℕ × ℤ) → Type 0) (v : Option ℤ) → v ≡ value_at new.units new.place
          → ((m : UnitMap) (w : List ℕ) → HasPassed new m w → v ≡ value_of m w)
          → ((xs : List (ℕ × ℤ)) → Found xs → Found' (xs ++ match_at next v)) → HasWalked units bytes next new Found'
      walked_next Found' v value values found = record {
        k = was.k + 1;
        within = omega (arith, one_more.0);
        inside = p.within;
        end_is = next_end;
        looked = looked_next units (front_units all) (bytes_before all) was.k (was.k + 1) (omega arith) cursor new Found Found' v was.looked
            (p.passes.units ∙ was.looked.units_are) next_steps
            (λ m h. rw next_units (p.passes.after m (front_units all was.k) (was.looked.after m h))) value values
            (λ xs f. subst (λ i. Found' (xs ++ match_at i v)) next_end (found xs f));
      }

    -- No key continues, or no character follows.
    module _ (stops : Stops cursor (drop end bytes)) where
      all_passed : StartsWithNoChar (drop end bytes) → was.k ≡ length all
      all_passed none =
          no_char bytes (text_front bytes).0 (text_front bytes).1 was.k was.within
          (subst (λ i. StartsWithNoChar (drop i bytes)) was.end_is none)

      pub walked_all : HasAll units (front_units all) (bytes_before all) (length all) Found
      walked_all = elim stops [
        | inl ends ↦ looked_ends units (front_units all) (bytes_before all) was.k cursor Found was.looked (length all) was.within
            ends.exact ends.keys (units_more all was.k)
        | inr none ↦ subst (λ j. HasAll units (front_units all) (bytes_before all) j Found) (all_passed none)
            (looked_all units (front_units all) (bytes_before all) was.k cursor Found was.looked)
      ]

-- ---- the longest match
-- Once one more prefix is looked up.
pub last_then : (found : Option (ℕ × ℤ)) (xs : List (ℕ × ℤ)) (k : ℕ) (v : Option ℤ)
    → last_of (last_of found xs) (match_at k v) ≡ last_of found (xs ++ match_at k v)
last_then found [] k v = refl
last_then found (x ∷ xs) k v = last_then (Some x) xs k v

last_is : (found : Option (ℕ × ℤ)) (xs : List (ℕ × ℤ)) (y : ℕ × ℤ) → last_of found (xs ++ y ∷ []) ≡ Some y
last_is found [] y = refl
last_is found (x ∷ xs) y = last_is (Some x) xs y

-- The longest prefix of less than n items that has a value.
abbrev LongestBelow : (ℕ → Option ℤ → Type 0) → ℕ → Option (ℕ × ℤ) → Type 0
LongestBelow P n None = (k : ℕ) → k < n → P k None
LongestBelow P n (Some found) = (found.0 < n) × P found.0 (Some found.1) × ((k : ℕ) → found.0 < k → k < n → P k None)

module _ (P : ℕ → Option ℤ → Type 0) where
  none_at : (n k : ℕ) → k < suc n → P n None → (k < n → P k None) → P k None
  none_at n k less here before = elim (cases_lt k n) [
    | inl below ↦ before below
    | inr above ↦ let same : n ≡ k = omega (arith, less, above) in subst (λ i. P i None) same here
  ]

  longest_more : (n : ℕ) (found : Option (ℕ × ℤ)) → P n None → LongestBelow P n found → LongestBelow P (suc n) found
  longest_more n None here h = λ k less. none_at n k less here (h k)
  longest_more n (Some found) here h = (omega (arith, h.0), h.1, λ k above less. none_at n k less here (h.2 k above))

  longest_within : (n : ℕ) (found : Option (ℕ × ℤ)) → LongestBelow P (suc n) found → LongestWithin P n found
  longest_within n None h = λ k below. h k (omega (arith, below))
  longest_within n (Some found) h = (omega (arith, h.0), h.1, λ k above below. h.2 k above (omega (arith, below)))

  -- It is the last one that was found.
  longest_last : (ds : List ℕ) (n : ℕ) (xs : List (ℕ × ℤ)) → AreValued P (bytes_before ds) n xs
      → (found : Option (ℕ × ℤ)) × LongestBelow P n found × (last_of None xs ≡ in_bytes ds found)
  longest_last ds zero xs h = (None, λ k less. absurd (omega (arith, less)), ap (last_of None) h)
  longest_last ds (suc n) xs h = by h.1 h.3 h.4 (longest_last ds n h.0 h.2)
    where
      by : (v : Option ℤ) → P n v → xs ≡ h.0 ++ match_at (bytes_before ds n) v
          → (found : Option (ℕ × ℤ)) × LongestBelow P n found × (last_of None h.0 ≡ in_bytes ds found)
          → (found : Option (ℕ × ℤ)) × LongestBelow P (suc n) found × (last_of None xs ≡ in_bytes ds found)
      by None here e before =
          (before.0, longest_more n before.0 here before.1, ap (last_of None) (e ∙ append-nil h.0) ∙ before.2)
      by (Some v) here e before =
          let none : (k : ℕ) → n < k → k < suc n → P k None = λ k above less. absurd (omega (arith, above, less)) in
          (Some (n, v), (omega arith, here, none), ap (last_of None) e ∙ last_is None h.0 (bytes_before ds n, v))

  pub longest_of : (ds : List ℕ) (result : Option (ℕ × ℤ)) → AllValued P (bytes_before ds) (length ds) (λ xs. result ≡ last_of None xs)
      → (found : Option (ℕ × ℤ)) × LongestWithin P (length ds) found × (result ≡ in_bytes ds found)
  longest_of ds result h =
      let last = longest_last ds (suc (length ds)) h.0 h.1 in
      (last.0, longest_within (length ds) last.0 last.1, h.2 ∙ last.2)

-- It ends at a character boundary.
pub longest_ends : (bytes : List ℕ) (found : Option (ℕ × ℤ)) → IfSome (in_bytes (chars_of bytes) found) (λ f. EndsAtBoundary bytes f.0)
longest_ends bytes None = tt
longest_ends bytes (Some found) = ends_at bytes (text_front bytes).0 (text_front bytes).1 found.0
