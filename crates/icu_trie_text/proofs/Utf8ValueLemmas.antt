-- The items of an iterator over bytes that may be ill-formed UTF-8.
use Rattle.std.proofs.Common.{◌≡◌, ◌∙◌, sym, ap, subst, ℕ, ◌<◌, List, [], ◌∷◌, drop, get_or, length, slice_get, Bor, true, Option, Some, None, arith}
use Rattle.std.specs.Option.{MatchOption, unwrap_or}
use Rattle.std.specs.Iterator.{Drains, Yields}
use Rattle.std.specs.Str.{IsUtf8, StartsWithNoChar, all_scalars, chars, encode_utf8_all}
use Rattle.std.proofs.lemmas.Bool.{and_parts}
use Rattle.std.proofs.lemmas.List.Elements.{All-cons, All-nil}
use Rattle.std.proofs.lemmas.Str.{IsUtf8-past_char, chars-nil, chars_past_char}
use Rattle.icu_trie.specs.Parts.{Parts, trie_value}
use Rattle.icu_utf.specs.Utf8.{IsFirstPart}
use Rattle.icu_trie_text.specs.Utf8Values.{AreValuesOfBytes, BytesToValue, GivesPart, IsFirstItem, part_value}
use Rattle.icu_trie_text.specs.Values.{AreValuesOf}
use Rattle.icu_utf.proofs.CallerLemmas.{part_of_ascii}

-- A text that is not empty starts with a character.
pub some_begins : (bytes cs : List ℕ) → all_scalars cs ≡ true → encode_utf8_all cs ≡ bytes → 0 < length bytes → StartsWithNoChar bytes → ⊥
some_begins bytes [] s e n none = omega (arith, n, ap (λ (bs : List ℕ). length bs) e)
some_begins bytes (c ∷ cs) s e n none = none c (encode_utf8_all cs) (and_parts _ _ s).0 (sym e)

module _ {T : Type 0} where
  values_of_run : (s t : BytesToValue T) (items : List (ℕ × T)) → t.bytes ≡ [] → Yields GivesPart s items t
      → AreValuesOfBytes s.trie s.bytes items
  values_of_run s t [] n y = ap (λ (v : BytesToValue T). v.bytes) y ∙ n
  values_of_run s t (x ∷ xs) n y =
      let j = y.0 in
      let step = y.1.steps in
      let r = values_of_run j t xs n y.2 in (
        step.0,
        step.1,
        subst (λ (bs : List ℕ). AreValuesOfBytes s.trie bs xs) step.2
            (subst (λ (p : Parts T). AreValuesOfBytes p j.bytes xs) y.1.trie r),
      )

  -- The items until nothing is left are those of the parts of the bytes.
  pub values_of_bytes_drained : (s : BytesToValue T) (items : List (ℕ × T)) → Drains GivesPart s items
      → AreValuesOfBytes s.trie s.bytes items
  values_of_bytes_drained s items d = values_of_run s d.1.0 items d.1.2.steps.0 d.1.1

module _ {T : Type 0} (trie : Parts T) where
  abbrev HasItsValue : ℕ × T → Type 0
  HasItsValue item = trie_value trie item.0 ≡ Some item.1

  text_item : (bytes : List ℕ) (item : ℕ × T) (items : List (ℕ × T)) (size : ℕ) (part : Option ℕ) → IsUtf8 bytes
      → IsFirstPart bytes part size
      → item.0 ≡ unwrap_or part 0xFFFD → part_value trie part ≡ Some item.1
      → (IsUtf8 (drop size bytes) → AreValuesOf trie (chars (drop size bytes)) items) → AreValuesOf trie (chars bytes) (item ∷ items)
  text_item bytes item items size None u p c v others =
      absurd (some_begins bytes u.0 u.1.0 u.1.1 (omega (arith, p.some, p.within)) p.no_character)
  text_item bytes item items size (Some d) u p c v others =
      let r = others (IsUtf8-past_char bytes (drop size bytes) d u p.2) in
      let own : HasItsValue item = rw c v in
      record {
        code_points = rw (chars_past_char bytes (drop size bytes) d u p.2, c) (ap (λ (cs : List ℕ). d ∷ cs) r.code_points);
        values = All-cons HasItsValue item items own r.values;
      }

  -- The parts of a text are its characters.
  pub values_of_text : (bytes : List ℕ) (items : List (ℕ × T)) → IsUtf8 bytes → AreValuesOfBytes trie bytes items
      → AreValuesOf trie (chars bytes) items
  values_of_text bytes [] u e = rw e (record { code_points = sym chars-nil; values = All-nil HasItsValue })
  values_of_text bytes (x ∷ xs) u a =
      text_item bytes x xs a.0 a.1.part u a.1.stands a.1.character a.1.value (λ v. values_of_text (drop a.0 bytes) xs v a.2)

  -- An ASCII byte is a character.
  pub ascii_item : (bytes : List ℕ) (lead c : ℕ) (value : T) → 0 < length bytes → lead ≡ get_or bytes 0 0 → lead < 128 → c ≡ lead
      → Some value ≡ trie_value trie lead → IsFirstItem trie bytes (c, value) 1
  ascii_item bytes lead c value some l h e v = record {
    part = Some lead;
    stands = rw l (part_of_ascii bytes some (rw l at h));
    character = e;
    value = sym v;
  }

-- A byte that was read is the first one.
first_byte : (bytes : List ℕ) (lead : ℕ) → Some lead ≡ slice_get bytes 0 → (0 < length bytes) × (lead ≡ get_or bytes 0 0)
first_byte [] lead e = cc
first_byte (b ∷ bs) lead e = let same : Some lead ≡ Some b = e in (omega arith, cc)

-- What is left after a call of `next`.
passed : (bytes rest : List ℕ) (P : Type 0) (item : Option (Bor ℕ))
    → MatchOption item ((length bytes ≡ 0) × P) (λ byte. bytes ≡ byte.now ∷ rest) → 0 < length bytes → rest ≡ drop 1 bytes
passed bytes rest P None m some = let none = m.0 in absurd (omega (arith, none, some))
passed bytes rest P (Some byte) m some = sym (ap (λ (bs : List ℕ). drop 1 bs) m)

-- The first part is an ASCII byte, and `next` is called once.
pub ascii_step : {T : Type 0} (trie : Parts T) (bytes rest : List ℕ) (P : Type 0) (item : Option (Bor ℕ)) (lead c n : ℕ) (value : T)
    → Some lead ≡ slice_get bytes 0 → n ≡ lead → n < 128 → c ≡ lead → Some value ≡ trie_value trie n
    → MatchOption item ((length bytes ≡ 0) × P) (λ byte. bytes ≡ byte.now ∷ rest)
    → (size : ℕ) × IsFirstItem trie bytes (c, value) size × (rest ≡ drop size bytes)
ascii_step trie bytes rest P item lead c n value e same small made v m =
    let first = first_byte bytes lead e in (
      1,
      ascii_item trie bytes lead c value first.0 first.1 (omega (arith, same, small)) made (v ∙ ap (λ k. trie_value trie k) same),
      passed bytes rest P item m first.0,
    )
