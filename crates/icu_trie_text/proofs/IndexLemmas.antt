-- The items of an iterator over values and offsets.
use Rattle.std.proofs.Common.{◌≡◌, ◌∙◌, sym, ap, refl, ℕ, ◌+◌, ◌-◌, ◌≤◌, List, [], ◌∷◌, length, map, Option, Some, arith}
use Rattle.std.specs.Char.{len_utf8}
use Rattle.std.specs.List.{All}
use Rattle.std.specs.Iterator.{Drains}
use Rattle.std.specs.Iterator.Runs.{EveryRun, ItemsMapTo}
use Rattle.std.specs.Str.{IsUtf8, chars}
use Rattle.std.proofs.iter.runs.Sources.{from_front}
use Rattle.std.proofs.lemmas.Str.{encodes-chars, length-encode, length-le-encodes}
use Rattle.std.proofs.lemmas.Iterator.{items_from_drains}
use Rattle.std.proofs.lemmas.Iterator.Consumers.{YieldsList-from_first}
use Rattle.std.proofs.lemmas.List.{length-append, length-map}
use Rattle.std.proofs.lemmas.List.Elements.{All-cons, All-nil}
use Rattle.icu_trie.specs.Parts.{Parts, trie_value}
use Rattle.icu_trie_text.specs.FirstCharacter.{IsFirstCharacter}
use Rattle.icu_trie_text.specs.Indices.{AreIndicesOf, GivesIndex, index_item, with_indices, with_offsets}

length-with_offsets : (from : ℕ) (cs : List ℕ) → length (with_offsets from cs) ≡ length cs
length-with_offsets from [] = refl
length-with_offsets from (c ∷ cs) = omega (arith, length-with_offsets (from + len_utf8 c) cs)

module _ {T : Type 0} (trie : Parts T) where
  abbrev HasItsValue : ℕ × ℕ × T → Type 0
  HasItsValue item = trie_value trie item.1 ≡ Some item.2

  record AreListed (from : ℕ) (cs : List ℕ) (items : List (ℕ × ℕ × T)) : Type 0 where
    offsets : map (λ item. (item.0, item.1)) items ≡ with_offsets from cs
    values : All HasItsValue items

  listed_indices : (from : ℕ) (cs : List ℕ) (items : List (ℕ × ℕ × T)) → map index_item items ≡ with_indices trie from cs
      → AreListed from cs items
  listed_indices from [] [] e = record { offsets = refl; values = All-nil HasItsValue }
  listed_indices from [] (x ∷ xs) e = cc
  listed_indices from (c ∷ cs) [] e = cc
  listed_indices from (c ∷ cs) (x ∷ xs) e =
      let first : index_item x ≡ (from, c, trie_value trie c) = cc in
      let offset : x.0 ≡ from = ap (λ (p : ℕ × ℕ × Option T). p.0) first in
      let character : x.1 ≡ c = ap (λ (p : ℕ × ℕ × Option T). p.1) first in
      let value : Some x.2 ≡ trie_value trie c = ap (λ (p : ℕ × ℕ × Option T). p.2) first in
      let others : map index_item xs ≡ with_indices trie (from + len_utf8 c) cs = cc in
      let r = listed_indices (from + len_utf8 c) cs xs others in
      record {
        offsets = rw (offset, character) (ap (λ (ps : List (ℕ × ℕ)). (from, c) ∷ ps) r.offsets);
        values = All-cons HasItsValue x xs (ap (λ (n : ℕ). trie_value trie n) character ∙ sym value) r.values;
      }

  -- The items until nothing is left are the characters, each with its offset and its value.
  pub indices_of_drained : (cs : List ℕ) (items : List (ℕ × ℕ × T)) → Drains GivesIndex (with_indices trie 0 cs) items
      → AreIndicesOf trie cs items
  indices_of_drained cs items d =
      let r = listed_indices 0 cs items
      (items_from_drains items (d.1.0, d.1.1, λ _. (d.0, d.1.2))
      (YieldsList-from_first index_item (λ left. left) (with_indices trie 0 cs) refl)) in
      record { offsets = r.offsets; values = r.values }

  -- Each run returns a prefix of what was left.
  pub index_runs : EveryRun (GivesIndex {T = T}) (λ p. ItemsMapTo p index_item p.from)
  index_runs p s = from_front (GivesIndex {T = T}) index_item (λ left. left) (λ s t h. ap length h.0) (λ s x t h. h) p s

  -- There are no more characters than bytes.
  pub indices_fit : (text : List ℕ) → IsUtf8 text → length (with_indices trie 0 (chars text)) ≤ length text
  indices_fit text u =
      omega (
        arith,
        length-map {B = ℕ × ℕ × Option T} (with_offsets 0 (chars text)) (λ (at : ℕ × ℕ). (at.0, at.1, trie_value trie at.1)),
        length-with_offsets 0 (chars text),
        length-le-encodes (chars text),
        ap (λ (bs : List ℕ). length bs) (encodes-chars text u),
      )

  -- The first of what is left of a text that ends at `end`.
  pub first_index : (text rest : List ℕ) (c end : ℕ) (value : T) → IsFirstCharacter text c rest → length text ≤ end
      → Some value ≡ trie_value trie c
      → with_indices trie (end - length text) (chars text)
      ≡ index_item (end - length text, c, value) ∷ with_indices trie (end - length rest) (chars rest)
  first_index text rest c end value first within v =
      let lengths = ap (λ (bs : List ℕ). length bs) first.bytes ∙ length-append _ rest in
      let next : end - length text + len_utf8 c ≡ end - length rest = omega (arith, lengths, length-encode c) in
      rw (first.characters, v, ← next) refl
