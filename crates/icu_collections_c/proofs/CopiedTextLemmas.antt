-- The parts of a text that were copied.
use Rattle.std.proofs.Common.{◌≡◌, ◌∙◌, sym, ap, refl, ℕ, suc, ◌+◌, ◌*◌, ◌<◌, ◌≤◌, List, [], ◌∷◌, ◌++◌, length, take, drop, Option, Some, arith, inl, inr}
use Rattle.std.specs.Prelude.{map, ◌⊎◌}
use Rattle.std.specs.Str.{IsUtf8, chars}
use Rattle.std.proofs.Math.Seq.{take-append_seam}
use Rattle.std.proofs.lemmas.List.{append-nil, drop-drop, drop_all, length-append, length-drop, length-map, length-take-le, map-append, take-append-drop, take_all}
use Rattle.std.proofs.lemmas.Str.{chars-nil}
use Rattle.icu_trie_core.specs.FastIndex.{fast_index_len}
use Rattle.icu_trie_core.specs.Format.{fast_limit}
use Rattle.icu_trie_core.specs.declared.header.TrieType.{TrieType}
use Rattle.icu_trie_core.specs.declared.header.TrieType.TheVariants.{Fast, Small}
use Rattle.icu_trie_text.specs.CopiedParts.{AreFirstParts, HasCopiedParts, HaveFirstValues}
use Rattle.icu_trie_text.specs.declared.copy_parts.Copied.{Copied}
use Rattle.icu_trie_text.proofs.CallerLemmas.{text_next}
use Rattle.icu_zerovec.specs.Buffers.{written}
use Rattle.icu_collections_c.specs.CopiedText.{IsCopiedText, number_of_part}

-- A code point in a block of the fast index is below the fast limit.
pub fast_block_number : (kind : TrieType) (block place : ℕ) → block < fast_index_len kind → place < 64
    → (block * 64 + place < fast_limit kind) × (block * 64 + place < 1114112)
fast_block_number Fast block place l s = (omega arith, omega arith)
fast_block_number Small block place l s = (omega arith, omega arith)

-- ---- the parts that have the values
module _ {T : Type 0} (f : Option ℕ → T) where
  parts_of_values : (bytes : List ℕ) (xs : List T) (size : ℕ) → HaveFirstValues (λ part. Some (f part)) bytes xs size
      → (parts : List (Option ℕ)) × AreFirstParts bytes parts size × (map f parts ≡ xs)
  parts_of_values bytes [] size h = ([], h, refl)
  parts_of_values bytes (x ∷ xs) size h =
      let r = parts_of_values (drop h.0 bytes) xs h.1 h.3 in
      let own : f h.2.0 ≡ x = cc (h.2.2) in (
        h.2.0 ∷ r.0,
        (h.0, h.1, h.2.1, r.1, h.4),
        ap (λ (y : T). y ∷ map f r.0) own ∙ ap (λ (ys : List T). x ∷ ys) r.2,
      )

written_parts : {T : Type 0} (items new old : List T) (n : ℕ) → n ≤ length old → length new ≡ length old → items ≡ take n new
    → drop n new ≡ drop n old → new ≡ written items old
written_parts items new old n fits long e d =
    let count : length items ≡ n = ap length e ∙ length-take-le n new (omega (arith, fits, long)) in
    let whole : take (length old) items ≡ items = take_all (length old) items (omega (arith, count, fits)) in
    sym (take-append-drop n new) ∙ ap (λ xs. xs ++ drop n new) (sym e) ∙ ap (λ ys. items ++ ys) d
    ∙ ap (λ k. items ++ drop k old) (sym count) ∙ ap (λ xs. xs ++ drop (length items) old) (sym whole)

-- What the loop over the parts gives is what C sees.
pub copied_by_parts : {T : Type 0} (value : ℕ → T) (text : List ℕ) (old new : List T) (copied : Copied) → length new ≡ length old
    → HasCopiedParts (λ part. Some (value (number_of_part part))) text old new copied
    → IsCopiedText value text old new copied.values copied.bytes
copied_by_parts {T} value text old new copied long h =
    let f : Option ℕ → T = λ part. value (number_of_part part) in
    let within = h.within in
    let r = parts_of_values f text (take copied.values new) copied.bytes h.values in
    let lengths = ap (λ (xs : List T). length xs) r.2 in
    record {
      parts = r.0;
      first = r.1;
      count_is = omega (arith, lengths, length-take-le copied.values new (omega (arith, within, long)), length-map {B = T} r.0 f);
      fits = within;
      buffer = written_parts (map f r.0) new old copied.values within long r.2 h.rest;
      stops = h.stops;
    }

-- ---- a text
nothing : (bs : List ℕ) → length bs ≤ 0 → bs ≡ []
nothing [] h = refl
nothing (b ∷ bs) h = absurd (omega (arith, h))

module _ {T : Type 0} (value : ℕ → T) where
  -- The first parts of a text are its first characters.
  record AreFirstCharacters (text : List ℕ) (parts : List (Option ℕ)) (size : ℕ) : Type 0 where
    cs : List ℕ
    are : map (λ part. value (number_of_part part)) parts ≡ map value cs
    count : length parts ≡ length cs
    left : IsUtf8 (drop size text)
    all : chars text ≡ cs ++ chars (drop size text)

  first_characters : (text : List ℕ) (parts : List (Option ℕ)) (size : ℕ) → IsUtf8 text → AreFirstParts text parts size
      → AreFirstCharacters text parts size
  first_characters text [] size u h = rw h (record { cs = []; are = refl; count = refl; left = u; all = refl })
  first_characters text (part ∷ parts) size u h =
      let next = text_next text part h.0 u h.2 in
      let r = first_characters (drop h.0 text) parts h.1 next.2.0 h.3 in
      let both : drop h.1 (drop h.0 text) ≡ drop size text = drop-drop h.1 h.0 text ∙ ap (λ k. drop k text) (omega (arith, h.4)) in
      let own : value (number_of_part part) ≡ value next.0 = ap (λ p. value (number_of_part p)) next.1 in
      record {
        cs = next.0 ∷ r.cs;
        are = ap (λ y. y ∷ map (λ p. value (number_of_part p)) parts) own ∙ ap (λ ys. value next.0 ∷ ys) r.are;
        count = ap suc r.count;
        left = rw both at r.left;
        all = next.2.1 ∙ ap (λ ds. next.0 ∷ ds) (rw both at r.all);
      }

  -- The values of all its characters, as many as fit.
  pub copied_text : (text : List ℕ) (old new : List T) (count taken : ℕ) → IsUtf8 text → IsCopiedText value text old new count taken
      → new ≡ written (map value (chars text)) old
  copied_text text old new count taken u c =
      let a = first_characters text c.parts taken u c.first in
      let ds = chars (drop taken text) in
      let counts = c.count_is in
      let same = a.count in
      let buffer : new ≡ written (map value a.cs) old = c.buffer ∙ ap (λ xs. written xs old) a.are in
      ended a.cs ds buffer a.all (elim c.stops [
        | inl full ↦ inl (omega (arith, full, counts, same))
        | inr end ↦ inr (ap chars (nothing (drop taken text) (omega (arith, end, length-drop taken text))) ∙ chars-nil)
      ])
    where
      ended : (cs ds : List ℕ) → new ≡ written (map value cs) old → chars text ≡ cs ++ ds → (length old ≡ length cs) ⊎ (ds ≡ [])
          → new ≡ written (map value (chars text)) old
      ended cs ds b e (inr none) = rw (e, none, append-nil cs) b
      ended cs ds b e (inl full) =
          let more : map value (chars text) ≡ map value cs ++ map value ds = ap (map value) e ∙ map-append value cs ds in
          let long : length (map value cs) ≡ length old = length-map cs value ∙ sym full in
          let front : take (length old) (map value cs ++ map value ds) ≡ map value cs =
          rw (sym long) (take-append_seam (map value cs) (map value ds)) in
          let own : take (length old) (map value cs) ≡ map value cs = take_all (length old) (map value cs) (omega (arith, long)) in
          let over : drop (length (map value cs ++ map value ds)) old ≡ [] =
          drop_all (length (map value cs ++ map value ds)) old (omega (arith, long, length-append (map value cs) (map value ds))) in
          let none : drop (length (map value cs)) old ≡ [] = drop_all (length (map value cs)) old (omega (arith, long)) in
          b ∙ ap (λ xs. xs ++ drop (length (map value cs)) old) own ∙ ap (λ ys. map value cs ++ ys) (none ∙ sym over)
          ∙ ap (λ xs. xs ++ drop (length (map value cs ++ map value ds)) old) (sym front)
          ∙ ap (λ xs. written xs old) (sym more)

  -- If all bytes were taken, there are as many values as characters.
  pub copied_count : (text : List ℕ) (old new : List T) (count taken : ℕ) → IsUtf8 text → IsCopiedText value text old new count taken
      → length text ≤ taken → count ≡ length (chars text)
  copied_count text old new count taken u c end =
      let a = first_characters text c.parts taken u c.first in
      let none : chars (drop taken text) ≡ [] =
      ap chars (nothing (drop taken text) (omega (arith, end, length-drop taken text))) ∙ chars-nil in
      let lengths = ap length a.all ∙ length-append a.cs (chars (drop taken text)) in
      let last = ap length none in
      omega (arith, lengths, last, c.count_is, a.count)
