-- The members of a set of code points and strings that are prefixes of bytes.
use Rattle.std.proofs.Common.{◌≡◌, ◌∙◌, refl, sym, ap, subst, ℕ, ℤ, zero, suc, ◌+◌, ◌<◌, ◌≤◌, Bool, true, false, ◌⊎◌, inl, inr, List, [], ◌∷◌, ◌++◌, Option, Some, None, length, take, drop, append-nil, length-append, append_assoc, arith, encode_utf8}
use Rattle.std.specs.Prelude.{◌&&◌, IfSome, encode_utf8_all}
use Rattle.std.specs.Char.Escape.{encode_utf16}
use Rattle.std.specs.List.{flat_map}
use Rattle.std.specs.Option.{MatchOption, is_some}
use Rattle.std.specs.Str.{IsUtf8, StartsWithNoChar, chars, is_utf8}
use Rattle.std.proofs.lemmas.Bool.{cases_lt, true≢false}
use Rattle.std.proofs.lemmas.List.{length-take-le, nil_from_length, take-append-drop, take-take, take_at}
use Rattle.std.proofs.lemmas.Str.{IsUtf8-encode, IsUtf8-from_is_utf8, IsUtf8-past_char, chars-append, chars-nil, chars_past_char, encodes-chars, is_utf8-from_IsUtf8, len_utf8_bounds, length-encode}
use Rattle.icu_char16trie.specs.Matches.{LongestWithin, front_units, in_bytes, text_units}
use Rattle.icu_char16trie.specs.UnitMap.{value_of}
use Rattle.icu_frozen_sets.specs.TextFronts.{IsTextUpTo}
use Rattle.icu_frozen_sets.proofs.CallerLemmas.{text_starts}
use Rattle.icu_invlist.specs.InversionList.{holds}
use Rattle.icu_text_sets.specs.TextSet.{TextSet, member, member_as, only_char, only_of}
use Rattle.icu_utf.specs.Utf8.{IsFirstPart}
use Rattle.icu_collections_c.specs.TextSets.{IsLongestMember, IsMember, IsMemberAs, IsStored, IsTextOf}
use Rattle.icu_collections_c.specs.UnitPrefixes.{bytes_before}
use Rattle.icu_collections_c.specs.UnitTexts.{GivesIfText}
use Rattle.icu_collections_c.specs.UnitTries.{EndsAtBoundary, GivesValue}

-- ---- texts
utf8_or_not : (bytes : List ℕ) → IsUtf8 bytes ⊎ (IsUtf8 bytes → ⊥)
utf8_or_not bytes = by (is_utf8 bytes) refl
  where
    by : (b : Bool) → is_utf8 bytes ≡ b → IsUtf8 bytes ⊎ (IsUtf8 bytes → ⊥)
    by true e = inl (IsUtf8-from_is_utf8 bytes e)
    by false e = inr (λ u. true≢false (sym (is_utf8-from_IsUtf8 bytes u) ∙ e))

is_no_utf8 : (bytes : List ℕ) → (IsUtf8 bytes → ⊥) → is_utf8 bytes ≡ false
is_no_utf8 bytes bad = by (is_utf8 bytes) refl
  where
    by : (b : Bool) → is_utf8 bytes ≡ b → is_utf8 bytes ≡ false
    by true e = absurd (bad (IsUtf8-from_is_utf8 bytes e))
    by false e = e

-- A text of one character.
pub only_one : (bytes : List ℕ) (c size : ℕ) → IsFirstPart bytes (Some c) size → size ≡ length bytes
    → IsUtf8 bytes × (only_char bytes ≡ Some c)
only_one bytes c size p all =
    let long = ap (λ (bs : List ℕ). length bs) p.2 in
    let rest : drop size bytes ≡ [] = nil_from_length (drop size bytes) (omega (arith, long, length-append (encode_utf8 c) (drop size bytes), length-encode c, p.1, all)) in
    let is : bytes ≡ encode_utf8 c = p.2 ∙ ap (λ (bs : List ℕ). encode_utf8 c ++ bs) rest ∙ append-nil (encode_utf8 c) in
    let u : IsUtf8 bytes = subst IsUtf8 (sym is) (IsUtf8-encode c p.0) in
    let cs : chars bytes ≡ c ∷ [] =
    chars_past_char bytes (drop size bytes) c u p.2 ∙ ap (λ (bs : List ℕ). c ∷ chars bs) rest ∙ ap (λ (ds : List ℕ). c ∷ ds) chars-nil in
    (u, ap only_of cs)

-- A text whose first character is not all of it.
pub not_only : (bytes : List ℕ) (c size : ℕ) → IsFirstPart bytes (Some c) size → (size ≡ length bytes → ⊥) → IsUtf8 bytes
    → only_char bytes ≡ None
not_only bytes c size p more u = ap only_of (chars_past_char bytes (drop size bytes) c u p.2) ∙ by (chars (drop size bytes)) refl
  where
    long : length bytes ≡ size + length (drop size bytes)
    long =
        omega (arith, ap (λ (bs : List ℕ). length bs) p.2, length-append (encode_utf8 c) (drop size bytes), length-encode c, p.1)

    by : (ds : List ℕ) → chars (drop size bytes) ≡ ds → only_of (c ∷ chars (drop size bytes)) ≡ None
    by [] e =
        let none : drop size bytes ≡ [] =
        sym (encodes-chars (drop size bytes) (IsUtf8-past_char bytes (drop size bytes) c u p.2)) ∙ ap encode_utf8_all e in
        absurd (more (omega (arith, long, ap (λ (bs : List ℕ). length bs) none)))
    by (d ∷ ds) e = ap (λ (es : List ℕ). only_of (c ∷ es)) e

-- A text that does not start with a character is empty.
pub not_first : (bytes : List ℕ) → StartsWithNoChar bytes → IsUtf8 bytes → only_char bytes ≡ None
not_first bytes none u = elim (cases_lt 0 (length bytes)) [
  | inl some ↦ absurd (text_starts bytes u some none)
  | inr empty ↦
      let nil : bytes ≡ [] = nil_from_length bytes (omega (arith, empty)) in
      ap (λ (bs : List ℕ). only_of (chars bs)) nil ∙ ap only_of chars-nil
]

-- ---- a set that is stored
-- What the words and the units say is the membership of the set that they store.
pub stored_member : (words units : List ℕ) (set : TextSet) (s : IsStored words units set) (bytes : List ℕ) (told : Bool)
    → IsMember (holds set.code_points) (λ w v. value_of s.map w ≡ v) bytes told → IsTextOf set bytes told
stored_member words units set s bytes told (inr bad) =
    bad.1 ∙ sym (ap (λ (b : Bool). b && member set bytes) (is_no_utf8 bytes bad.0))
stored_member words units set s bytes told (inl good) =
    by (only_char bytes) refl good.1 ∙ sym (ap (λ (b : Bool). b && member set bytes) (is_utf8-from_IsUtf8 bytes good.0))
  where
    by : (o : Option ℕ) → only_char bytes ≡ o
        → IsMemberAs (holds set.code_points) (λ w v. value_of s.map w ≡ v) bytes o told → told ≡ member set bytes
    by (Some c) e h = h ∙ sym (ap (member_as set bytes) e)
    by None e h =
        h.2 ∙ ap is_some (sym h.1) ∙ sym (s.strings bytes good.0 e) ∙ sym (ap (member_as set bytes) e)

pub longest_by : (P Q : List ℕ → Bool → Type 0) → ((bytes : List ℕ) (told : Bool) → P bytes told → Q bytes told)
    → (bytes : List ℕ) (n : ℕ) → IsLongestMember P bytes n → IsLongestMember Q bytes n
longest_by P Q by bytes n l = record {
  within = l.within;
  is_in = λ some. by (take n bytes) true (l.is_in some);
  longest = λ k above within. by (take k bytes) false (l.longest k above within);
}

-- ---- the first characters of a text
only_front : (cs : List ℕ) (j : ℕ) → 2 ≤ j → j ≤ length cs → only_of (take j cs) ≡ None
only_front cs zero two within = absurd (omega (arith, two))
only_front cs (suc zero) two within = absurd (omega (arith, two))
only_front [] (suc (suc j)) two within = absurd (omega (arith, within))
only_front (c ∷ []) (suc (suc j)) two within = absurd (omega (arith, within))
only_front (c ∷ d ∷ cs) (suc (suc j)) two within = refl

bytes_less : (cs : List ℕ) (i j : ℕ) → i < j → j ≤ length cs → bytes_before cs i < bytes_before cs j
bytes_less cs i zero less within = absurd (omega (arith, less))
bytes_less [] i (suc j) less within = absurd (omega (arith, within))
bytes_less (c ∷ cs) zero (suc j) less within =
    omega (arith, length-append (encode_utf8 c) (encode_utf8_all (take j cs)), length-encode c, (len_utf8_bounds c).0)
bytes_less (c ∷ cs) (suc i) (suc j) less within =
    omega (
      arith,
      length-append (encode_utf8 c) (encode_utf8_all (take i cs)),
      length-append (encode_utf8 c) (encode_utf8_all (take j cs)),
      bytes_less cs i j (omega (arith, less)) (omega (arith, within)),
    )

-- Fewer bytes are fewer characters.
chars_less : (cs : List ℕ) (i j : ℕ) → i ≤ length cs → bytes_before cs i < bytes_before cs j → i < j
chars_less cs i j within less = elim (cases_lt i j) [
  | inl fewer ↦ fewer
  | inr more ↦ elim (cases_lt j i) [
    | inl above ↦ absurd (omega (arith, less, bytes_less cs j i above within))
    | inr below ↦
        let same : i ≡ j = omega (arith, more, below) in
        absurd (omega (arith, less, ap (bytes_before cs) same))
  ]
]

chars_same : (cs : List ℕ) (i j : ℕ) → i ≤ length cs → j ≤ length cs → bytes_before cs i ≡ bytes_before cs j → i ≡ j
chars_same cs i j a b same = elim (cases_lt i j) [
  | inl less ↦ absurd (omega (arith, same, bytes_less cs i j less b))
  | inr more ↦ elim (cases_lt j i) [
    | inl less ↦ absurd (omega (arith, same, bytes_less cs j i less a))
    | inr below ↦ omega (arith, more, below)
  ]
]

module _ (bytes : List ℕ) (n : ℕ) (t : IsTextUpTo bytes n) where
  abbrev cs : List ℕ
  cs = chars (take n bytes)

  -- A prefix that is UTF-8 has the first characters of the text.
  front_chars : (k : ℕ) → k ≤ length bytes → IsUtf8 (take k bytes)
      → (j : ℕ) × (j ≤ length cs) × (chars (take k bytes) ≡ take j cs) × (k ≡ bytes_before cs j)
  front_chars k within u = elim (cases_lt n k) [
    | inl above ↦ absurd (t.longest k above within u)
    | inr less ↦
        let ds : List ℕ = chars (take k bytes) in
        let rest : List ℕ = drop k (take n bytes) in
        let parts : take n bytes ≡ take k bytes ++ rest =
        sym (take-append-drop k (take n bytes)) ∙ ap (λ (bs : List ℕ). bs ++ rest) (take-take k n bytes less) in
        let all : cs ≡ ds ++ chars rest = ap chars parts ∙ chars-append (take k bytes) rest u in
        let front : ds ≡ take (length ds) cs =
        sym (ap (λ (es : List ℕ). take (length ds) es) all ∙ take_at ds (chars rest) (length ds) refl) in
        let size : k ≡ length (encode_utf8_all ds) =
        sym (length-take-le k bytes within) ∙ ap (λ (bs : List ℕ). length bs) (sym (encodes-chars (take k bytes) u)) in (
          length ds,
          omega (arith, ap (λ (es : List ℕ). length es) all, length-append ds (chars rest)),
          front,
          size ∙ ap (λ (es : List ℕ). length (encode_utf8_all es)) front,
        )
  ]

  -- The first character.
  first_char : (c size : ℕ) → IsFirstPart bytes (Some c) size
      → (1 ≤ length cs) × (chars (take size bytes) ≡ c ∷ []) × (size ≡ bytes_before cs 1) × (size ≤ length bytes) × IsUtf8 (take size bytes)
  first_char c size p =
      let is : take size bytes ≡ encode_utf8 c =
      ap (take size) p.2 ∙ take_at (encode_utf8 c) (drop size bytes) size (length-encode c ∙ sym p.1) in
      let u : IsUtf8 (take size bytes) = subst IsUtf8 (sym is) (IsUtf8-encode c p.0) in
      let within : size ≤ length bytes =
      omega (arith, ap (λ (bs : List ℕ). length bs) p.2, length-append (encode_utf8 c) (drop size bytes), length-encode c, p.1) in
      let one : chars (take size bytes) ≡ c ∷ [] =
      chars_past_char (take size bytes) [] c u (is ∙ sym (append-nil (encode_utf8 c))) ∙ ap (λ (ds : List ℕ). c ∷ ds) chars-nil in
      let f = front_chars size within u in
      let count : f.0 ≡ 1 =
      sym (length-take-le f.0 cs f.1) ∙ ap (λ (ds : List ℕ). length ds) (sym f.2 ∙ one) in
      (subst (λ i. i ≤ length cs) count f.1, one, f.3 ∙ ap (bytes_before cs) count, within, u)

  -- ---- which prefixes are members
  module _ (held : ℕ → Bool) (HasValue : List ℕ → Option ℤ → Type 0) where
    string_in : (k j : ℕ) → IsUtf8 (take k bytes) → chars (take k bytes) ≡ take j cs → only_of (take j cs) ≡ None → (v : Option ℤ)
        → HasValue (front_units cs j) v → IsMember held HasValue (take k bytes) (is_some v)
    string_in k j u e none v h =
        inl (
          u,
          subst (λ (o : Option ℕ). IsMemberAs held HasValue (take k bytes) o (is_some v)) (sym (ap only_of e ∙ none))
              (v, subst (λ (ds : List ℕ). HasValue (flat_map encode_utf16 ds) v) (sym e) h, refl),
        )

    char_in : (k c : ℕ) → IsUtf8 (take k bytes) → chars (take k bytes) ≡ c ∷ [] → (told : Bool) → told ≡ held c
        → IsMember held HasValue (take k bytes) told
    char_in k c u e told h =
        inl (u, subst (λ (o : Option ℕ). IsMemberAs held HasValue (take k bytes) o told) (sym (ap only_of e)) h)

    -- No longer prefix is a member if none with more characters has a value.
    none_longer : (most : ℕ) → 1 ≤ most → most ≤ length cs
        → ((j : ℕ) → most < j → j ≤ length cs → HasValue (front_units cs j) None)
        → (k : ℕ) → bytes_before cs most < k → k ≤ length bytes → IsMember held HasValue (take k bytes) false
    none_longer most some room none k above within = elim (utf8_or_not (take k bytes)) [
      | inl u ↦
          let f = front_chars k within u in
          let more : most < f.0 = chars_less cs most f.0 room (omega (arith, above, f.3)) in
          string_in k f.0 u f.2 (only_front cs f.0 (omega (arith, some, more)) f.1) None (none f.0 more f.1)
      | inr bad ↦ inr (bad, refl)
    ]

    -- ---- the longest one
    module _ (c size : ℕ) (p : IsFirstPart bytes (Some c) size) (found : Option (ℕ × ℤ))
        (l : LongestWithin (λ j v. HasValue (front_units cs j) v) (length cs) found) where
      -- It is a string if that has more bytes than the first character.
      string_of : (found : Option (ℕ × ℤ)) → LongestWithin (λ j v. HasValue (front_units cs j) v) (length cs) found → (longest : ℕ)
          → MatchOption (in_bytes cs found) (longest ≡ 0) (λ f. longest ≡ f.0) → IfSome (in_bytes cs found) (λ f. EndsAtBoundary bytes f.0)
          → size < longest → IsLongestMember (IsMember held HasValue) bytes longest
      string_of None l longest is ends more = absurd (omega (arith, is, more))
      string_of (Some f) l longest is ends more =
          let one = first_char c size p in
          let many : 1 < f.0 = chars_less cs 1 f.0 one.0 (omega (arith, one.2, is, more)) in
          let g = front_chars (bytes_before cs f.0) ends.0 ends.1 in
          let same : g.0 ≡ f.0 = chars_same cs g.0 f.0 g.1 l.0 (sym g.3) in
          let front : chars (take (bytes_before cs f.0) bytes) ≡ take f.0 cs = g.2 ∙ ap (λ (j : ℕ). take j cs) same in
          subst (λ (z : ℕ). IsLongestMember (IsMember held HasValue) bytes z) (sym is) (record {
            within = ends.0;
            is_in = λ _. string_in (bytes_before cs f.0) f.0 ends.1 front (only_front cs f.0 (omega (arith, many)) l.0) (Some f.1) l.1;
            longest = none_longer f.0 (omega (arith, many)) l.0 l.2;
          })

      -- If it has no more, no prefix of two or more characters is a member.
      no_string : (found : Option (ℕ × ℤ)) → LongestWithin (λ j v. HasValue (front_units cs j) v) (length cs) found → (longest : ℕ)
          → MatchOption (in_bytes cs found) (longest ≡ 0) (λ f. longest ≡ f.0) → longest ≤ size
          → (j : ℕ) → 1 < j → j ≤ length cs → HasValue (front_units cs j) None
      no_string None l longest is few j many within = l j within
      no_string (Some f) l longest is few j many within = elim (cases_lt f.0 j) [
        | inl above ↦ l.2 j above within
        | inr below ↦
            let size_is = (first_char c size p).2 in
            absurd (omega (arith, is, few, size_is, bytes_less cs 1 f.0 (omega (arith, many, below)) l.0))
      ]

      pub longest_string : (longest : ℕ) → MatchOption (in_bytes cs found) (longest ≡ 0) (λ f. longest ≡ f.0)
          → IfSome (in_bytes cs found) (λ f. EndsAtBoundary bytes f.0) → size < longest → IsLongestMember (IsMember held HasValue) bytes longest
      longest_string = string_of found l

      module _ (longest : ℕ) (is : MatchOption (in_bytes cs found) (longest ≡ 0) (λ f. longest ≡ f.0)) (few : longest ≤ size) where
        after_first : (k : ℕ) → size < k → k ≤ length bytes → IsMember held HasValue (take k bytes) false
        after_first k above within =
            let one = first_char c size p in
            none_longer 1 (omega arith) one.0 (no_string found l longest is few) k (omega (arith, above, one.2)) within

        -- It is the first character.
        pub longest_char : held c ≡ true → IsLongestMember (IsMember held HasValue) bytes size
        longest_char good =
            let one = first_char c size p in
            record {
              within = one.3;
              is_in = λ _. char_in size c one.4 one.1 true (sym good);
              longest = after_first;
            }

        -- There is none.
        pub longest_none : held c ≡ false → IsLongestMember (IsMember held HasValue) bytes 0
        longest_none bad = record {
          within = omega arith;
          is_in = λ some. absurd (omega (arith, some));
          longest = λ k some within. by k some within (cases_lt size k) (utf8_or_not (take k bytes));
        }
          where
            by : (k : ℕ) → 0 < k → k ≤ length bytes → (size < k) ⊎ (k ≤ size) → IsUtf8 (take k bytes) ⊎ (IsUtf8 (take k bytes) → ⊥)
                → IsMember held HasValue (take k bytes) false
            by k some within (inl above) u = after_first k above within
            by k some within (inr below) (inr none) = inr (none, refl)
            by k some within (inr below) (inl u) =
                let one = first_char c size p in
                let f = front_chars k within u in
                let more : 0 < f.0 = chars_less cs 0 f.0 (omega arith) (omega (arith, some, f.3)) in
                let few' : f.0 < 2 = chars_few f.0 f.1 (omega (arith, below, f.3)) in
                let is_one : f.0 ≡ 1 = omega (arith, more, few') in
                let same : k ≡ size = f.3 ∙ ap (bytes_before cs) is_one ∙ sym one.2 in
                subst (λ (z : ℕ). IsMember held HasValue (take z bytes) false) (sym same) (char_in size c one.4 one.1 false (sym bad))
              where
                chars_few : (j : ℕ) → j ≤ length cs → bytes_before cs j ≤ size → j < 2
                chars_few j room h = elim (cases_lt j 2) [
                  | inl less ↦ less
                  | inr above ↦
                      let size_is = (first_char c size p).2 in
                      absurd (omega (arith, h, size_is, bytes_less cs 1 j (omega (arith, above)) room))
                ]

-- Bytes that do not start with a character start with no member.
pub longest_nowhere : (held : ℕ → Bool) (HasValue : List ℕ → Option ℤ → Type 0) (bytes : List ℕ) → StartsWithNoChar bytes
    → IsLongestMember (IsMember held HasValue) bytes 0
longest_nowhere held HasValue bytes none = record {
  within = omega arith;
  is_in = λ some. absurd (omega (arith, some));
  longest = λ k some within. inr (λ u. no_text k some within u, refl);
}
  where
    no_text : (k : ℕ) → 0 < k → k ≤ length bytes → IsUtf8 (take k bytes) → ⊥
    no_text k some within u =
        text_starts (take k bytes) u (omega (arith, some, length-take-le k bytes within)) (λ c more s e.
        none c (more ++ drop k bytes) s
        (sym (take-append-drop k bytes) ∙ ap (λ (bs : List ℕ). bs ++ drop k bytes) e ∙ append_assoc (encode_utf8 c) more (drop k bytes)))

-- ---- what the functions find
-- The longest key that the bytes start with, as it is found.
abbrev IsFoundBy : (List ℕ → Option ℤ → Type 0) → List ℕ → Option (ℕ × ℤ) → Type 0
IsFoundBy HasValue bytes result =
    (n : ℕ) × IsTextUpTo bytes n
    × ((found : Option (ℕ × ℤ))
    × LongestWithin (λ j v. HasValue (front_units (chars (take n bytes)) j) v) (length (chars (take n bytes))) found
    × (result ≡ in_bytes (chars (take n bytes)) found))

module _ (held : ℕ → Bool) (HasValue : List ℕ → Option ℤ → Type 0) where
  -- A text of no or of several characters, by the value of its units.
  pub looked_up : (text : List ℕ) → (IsUtf8 text → only_char text ≡ None) → (v : Option ℤ) → HasValue (text_units text) v
      → (old new : ℤ) (told : Bool) → GivesIfText (IsUtf8 text) (GivesValue v old told new) old told new
      → IsMember held HasValue text told
  looked_up text none v h old new told (inl good) =
      inl (good.0, subst (λ (o : Option ℕ). IsMemberAs held HasValue text o told) (sym (none good.0)) (v, h, by v good.1))
    where
      by : (v : Option ℤ) → GivesValue v old told new → told ≡ is_some v
      by (Some x) gives = gives.0
      by None gives = gives.0
  looked_up text none v h old new told (inr bad) = inr (bad.0, bad.1.0)

  module _ (bytes : List ℕ) (c size : ℕ) (p : IsFirstPart bytes (Some c) size) (result : Option (ℕ × ℤ))
      (f : IsFoundBy HasValue bytes result) (longest : ℕ) (is : MatchOption result (longest ≡ 0) (λ x. longest ≡ x.0)) where
    is_size : MatchOption (in_bytes (chars (take f.0 bytes)) f.2.0) (longest ≡ 0) (λ x. longest ≡ x.0)
    is_size = subst (λ (o : Option (ℕ × ℤ)). MatchOption o (longest ≡ 0) (λ x. longest ≡ x.0)) f.2.2 is

    pub found_string : IfSome result (λ x. EndsAtBoundary bytes x.0) → size < longest
        → IsLongestMember (IsMember held HasValue) bytes longest
    found_string ends more =
        longest_string bytes f.0 f.1 held HasValue c size p f.2.0 f.2.1 longest is_size
        (subst (λ (o : Option (ℕ × ℤ)). IfSome o (λ x. EndsAtBoundary bytes x.0)) f.2.2 ends) more

    pub found_char : longest ≤ size → held c ≡ true → IsLongestMember (IsMember held HasValue) bytes size
    found_char few good = longest_char bytes f.0 f.1 held HasValue c size p f.2.0 f.2.1 longest is_size few good

    pub found_none : longest ≤ size → held c ≡ false → IsLongestMember (IsMember held HasValue) bytes 0
    found_none few bad = longest_none bytes f.0 f.1 held HasValue c size p f.2.0 f.2.1 longest is_size few bad
