-- The items of the parts that were copied, and of a text.
use Rattle.std.proofs.Common.{◌≡◌, ◌∙◌, sym, ap, refl, ℕ, zero, suc, ◌+◌, ◌<◌, ◌≤◌, List, [], ◌∷◌, ◌++◌, map, length, get_or, take, drop, Option, Some, None, arith, inl, inr}
use Rattle.std.specs.Option.{unwrap_or}
use Rattle.std.specs.Str.{IsUtf8, chars, encode_utf8_all}
use Rattle.std.proofs.lemmas.List.{drop-drop, get_or-drop, length-drop, length-map, length-take-le, take-append-drop}
use Rattle.std.proofs.lemmas.Str.{IsUtf8-past_char, chars_past_char, encodes-chars}
use Rattle.icu_trie.specs.Parts.{Parts}
use Rattle.icu_trie_text.specs.Copied.{AreFirstValues, IsCopied}
use Rattle.icu_trie_text.specs.CopiedParts.{HasCopiedParts, HaveFirstValues}
use Rattle.icu_utf.specs.Utf8.{IsFirstPart}
use Rattle.icu_trie_text.specs.Utf8Values.{AreValuesOfBytes, part_value}
use Rattle.icu_trie_text.specs.Values.{AreValuesOf}
use Rattle.icu_trie_text.specs.declared.copy_parts.Copied.{Copied}
use Rattle.icu_utf.proofs.CallerLemmas.{part_of_ascii, part_size}
use Rattle.icu_trie_text.proofs.Utf8ValueLemmas.{some_begins, values_of_text}

nothing : (bs : List ℕ) → length bs ≤ 0 → bs ≡ []
nothing [] h = refl
nothing (b ∷ bs) h = absurd (omega (arith, h))

-- ---- a text
-- The first part of a text is its first character.
pub text_next : (bytes : List ℕ) (part : Option ℕ) (n : ℕ) → IsUtf8 bytes → IsFirstPart bytes part n
    → (c : ℕ) × (part ≡ Some c) × (IsUtf8 (drop n bytes) × (chars bytes ≡ c ∷ chars (drop n bytes)))
text_next bytes None n u p = absurd (some_begins bytes u.0 u.1.0 u.1.1 (omega (arith, p.some, p.within)) p.no_character)
text_next bytes (Some d) n u p =
    (d, refl, (IsUtf8-past_char bytes (drop n bytes) d u p.2, chars_past_char bytes (drop n bytes) d u p.2))

-- What follows ASCII characters of a text is a text.
pub ascii_left : (bytes : List ℕ) (n : ℕ) → IsUtf8 bytes → n ≤ length bytes → ((k : ℕ) → k < n → get_or bytes k 0 < 128)
    → IsUtf8 (drop n bytes)
ascii_left bytes zero u l a = u
ascii_left bytes (suc n) u l a =
    let first = part_of_ascii bytes (omega (arith, l)) (a 0 (omega arith)) in
    let next = text_next bytes (Some (get_or bytes 0 0)) 1 u first in
    let others = ascii_left (drop 1 bytes) n next.2.0 (omega (arith, l, length-drop 1 bytes))
    (λ k h. rw (get_or-drop 1 bytes k 0) (a (1 + k) (omega (arith, h)))) in
    let size : 1 + n ≡ suc n = omega arith in
    rw (drop-drop n 1 bytes, size) at others

no_more : (bytes : List ℕ) → IsUtf8 bytes → length (chars bytes) ≤ 0 → bytes ≡ []
no_more bytes u h = sym (encodes-chars bytes u) ∙ ap (λ (cs : List ℕ). encode_utf8_all cs) (nothing (chars bytes) h)

module _ {T : Type 0} (trie : Parts T) where
  -- The parts are inside the bytes.
  first_values_fit : (bytes : List ℕ) (items : List (ℕ × T)) (size : ℕ) → AreFirstValues trie bytes items size → size ≤ length bytes
  first_values_fit bytes [] size h = omega (arith, h)
  first_values_fit bytes (item ∷ items) size h =
      let own = (part_size bytes h.2.part h.0 h.2.stands).1 in
      let others = first_values_fit (drop h.0 bytes) items h.1 h.3 in
      omega (arith, own, others, h.4, length-drop h.0 bytes)

  -- Each part takes at least one byte.
  first_values_least : (bytes : List ℕ) (items : List (ℕ × T)) (size : ℕ) → AreFirstValues trie bytes items size → length items ≤ size
  first_values_least bytes [] size h = omega (arith, h)
  first_values_least bytes (item ∷ items) size h =
      let own = (part_size bytes h.2.part h.0 h.2.stands).0 in
      let others = first_values_least (drop h.0 bytes) items h.1 h.3 in
      omega (arith, own, others, h.4)

  -- The first parts, and then those of the bytes that follow, are all parts.
  pub first_values_append : (bytes : List ℕ) (items more : List (ℕ × T)) (size : ℕ) → AreFirstValues trie bytes items size
      → AreValuesOfBytes trie (drop size bytes) more → AreValuesOfBytes trie bytes (items ++ more)
  first_values_append bytes [] more size h a = rw h at a
  first_values_append bytes (item ∷ items) more size h a =
      let both : drop size bytes ≡ drop h.1 (drop h.0 bytes) = ap (λ k. drop k bytes) h.4 ∙ sym (drop-drop h.1 h.0 bytes) in
      (h.0, h.2, first_values_append (drop h.0 bytes) items more h.1 h.3 (rw both at a))

  -- The parts that take all bytes are all parts.
  all_values : (bytes : List ℕ) (items : List (ℕ × T)) (size : ℕ) → AreFirstValues trie bytes items size → size ≡ length bytes
      → AreValuesOfBytes trie bytes items
  all_values bytes [] size h e = nothing bytes (omega (arith, h, e))
  all_values bytes (item ∷ items) size h e =
      let own = (part_size bytes h.2.part h.0 h.2.stands).1 in
      (h.0, h.2, all_values (drop h.0 bytes) items h.1 h.3 (omega (arith, own, h.4, e, length-drop h.0 bytes)))

  -- Each part of a text is a character.
  text_left : (bytes : List ℕ) (items : List (ℕ × T)) (size : ℕ) → IsUtf8 bytes → AreFirstValues trie bytes items size
      → IsUtf8 (drop size bytes) × (length items + length (chars (drop size bytes)) ≡ length (chars bytes))
  text_left bytes [] size u h = rw h (u, omega arith)
  text_left bytes (item ∷ items) size u h =
      let next = text_next bytes h.2.part h.0 u h.2.stands in
      let characters = ap (λ (cs : List ℕ). length cs) next.2.1 in
      let others = text_left (drop h.0 bytes) items h.1 next.2.0 h.3 in
      let both : drop h.1 (drop h.0 bytes) ≡ drop size bytes = drop-drop h.1 h.0 bytes ∙ ap (λ k. drop k bytes) (omega (arith, h.4)) in
      let pair : IsUtf8 (drop h.1 (drop h.0 bytes))
      × (length (item ∷ items) + length (chars (drop h.1 (drop h.0 bytes))) ≡ length (chars bytes)) =
      (others.0, omega (arith, others.1, characters)) in
      rw both at pair

  module _ (bytes : List ℕ) (old new : List T) (copied : Copied) where
    -- If there is a byte and room for a value, a part is copied, which is not empty.
    pub copied_some : IsCopied trie bytes old new copied → 0 < length bytes → 0 < length old → 0 < copied.bytes
    copied_some c some room =
        let count = c.count in
        let least = first_values_least bytes c.items copied.bytes c.parts in
        elim c.stops [ inl full ↦ omega (arith, full, count, least, room) | inr ended ↦ omega (arith, ended, some) ]

    -- A text is copied to its end if its characters fit.
    pub copied_whole : IsCopied trie bytes old new copied → IsUtf8 bytes → length (chars bytes) ≤ length old → copied.bytes ≡ length bytes
    copied_whole c u room = elim c.stops [
      | inr ended ↦ ended
      | inl full ↦
          let left = text_left bytes c.items copied.bytes u c.parts in
          let count = c.count in
          let none : drop copied.bytes bytes ≡ [] = no_more (drop copied.bytes bytes) left.0 (omega (arith, left.1, full, count, room)) in
          let long = ap (λ (bs : List ℕ). length bs) none in
          let fits = first_values_fit bytes c.items copied.bytes c.parts in
          omega (arith, long, fits, length-drop copied.bytes bytes)
    ]

    pub copied_text : IsCopied trie bytes old new copied → IsUtf8 bytes → length (chars bytes) ≤ length old
        → (items : List (ℕ × T)) × AreValuesOf trie (chars bytes) items × (copied.bytes ≡ length bytes)
        × (new ≡ map (λ item. item.1) items ++ drop (length items) old)
    copied_text c u room =
        let all = copied_whole c u room in
        (c.items, values_of_text trie bytes c.items u (all_values bytes c.items copied.bytes c.parts all), all, c.buffer)

    -- ---- the items of the values
    items_of : (bytes : List ℕ) (xs : List T) (size : ℕ) → HaveFirstValues (part_value trie) bytes xs size
        → (items : List (ℕ × T)) × AreFirstValues trie bytes items size × (map (λ item. item.1) items ≡ xs)
    items_of bytes [] size h = ([], h, refl)
    items_of bytes (x ∷ xs) size h =
        let r = items_of (drop h.0 bytes) xs h.1 h.3 in (
          (unwrap_or h.2.0 0xFFFD, x) ∷ r.0,
          (h.0, h.1, record { part = h.2.0; stands = h.2.1; character = refl; value = h.2.2 }, r.1, h.4),
          ap (λ (ys : List T). x ∷ ys) r.2,
        )

    pub copied_items : length new ≡ length old → HasCopiedParts (part_value trie) bytes old new copied → IsCopied trie bytes old new copied
    copied_items long h =
        let n : ℕ = copied.values in
        let within = h.within in
        let r = items_of bytes (take n new) copied.bytes h.values in
        let own : List T = map (λ item. item.1) r.0 in
        let lengths = ap (λ (xs : List T). length xs) r.2 in
        let mapped = length-map {B = T} r.0 (λ (item : ℕ × T). item.1) in
        let taken = length-take-le n new (omega (arith, within, long)) in
        let count : n ≡ length r.0 = omega (arith, lengths, taken, mapped) in
        record {
          items = r.0;
          parts = r.1;
          count = count;
          fits = within;
          within = first_values_fit bytes r.0 copied.bytes r.1;
          buffer = sym (take-append-drop n new) ∙ ap (λ (xs : List T). xs ++ drop n new) (sym r.2)
              ∙ ap (λ (xs : List T). own ++ xs) h.rest ∙ ap (λ (k : ℕ). own ++ drop k old) count;
          stops = h.stops;
        }
