-- The items of an iterator over values.
use Rattle.std.proofs.Common.{◌≡◌, ◌∙◌, sym, ap, refl, ℕ, ◌≤◌, List, [], ◌∷◌, ◌++◌, encode_utf8, length, map, Option, Some, arith}
use Rattle.std.specs.Iterator.{Drains}
use Rattle.std.specs.Iterator.Runs.{EveryRun, ItemsMapTo}
use Rattle.std.proofs.iter.runs.Sources.{from_front}
use Rattle.std.specs.Str.{IsUtf8, chars}
use Rattle.std.proofs.lemmas.Str.{chars_past_char, encodes-chars, length-le-encodes}
use Rattle.std.proofs.lemmas.List.{length-map}
use Rattle.std.proofs.lemmas.Iterator.{items_from_drains}
use Rattle.std.proofs.lemmas.Iterator.Consumers.{YieldsList-from_first}
use Rattle.std.proofs.lemmas.List.Elements.{All-cons, All-nil}
use Rattle.icu_trie.specs.Parts.{Parts, trie_value}
use Rattle.icu_trie_text.specs.FirstCharacter.{IsFirstValue}
use Rattle.icu_utf.specs.Utf16.{code_points_of}
use Rattle.icu_trie_text.specs.Values.{AreValuesOf, GivesValue, value_item, with_values}
use Rattle.icu_utf.proofs.CallerLemmas.{length-code_points}

module _ {T : Type 0} (trie : Parts T) where
  length-with_values : (cs : List ℕ) → length (with_values trie cs) ≡ length cs
  length-with_values cs = length-map {B = ℕ × Option T} cs (λ (c : ℕ). (c, trie_value trie c))

  abbrev HasItsValue : ℕ × T → Type 0
  HasItsValue item = trie_value trie item.0 ≡ Some item.1

  listed_values : (cs : List ℕ) (items : List (ℕ × T)) → map value_item items ≡ with_values trie cs → AreValuesOf trie cs items
  listed_values [] [] e = record { code_points = refl; values = All-nil HasItsValue }
  listed_values [] (x ∷ xs) e = cc
  listed_values (c ∷ cs) [] e = cc
  listed_values (c ∷ cs) (x ∷ xs) e =
      let first : value_item x ≡ (c, trie_value trie c) = cc in
      let code_point : c ≡ x.0 = sym (ap (λ (p : ℕ × Option T). p.0) first) in
      let value : trie_value trie c ≡ Some x.1 = sym (ap (λ (p : ℕ × Option T). p.1) first) in
      let others : map value_item xs ≡ with_values trie cs = cc in
      let r = listed_values cs xs others in
      record {
        code_points = ap (λ (n : ℕ). n ∷ map (λ item. item.0) xs) (sym code_point) ∙ ap (λ (ns : List ℕ). c ∷ ns) r.code_points;
        values = All-cons HasItsValue x xs (ap (λ (n : ℕ). trie_value trie n) (sym code_point) ∙ value) r.values;
      }

  -- The items until nothing is left are the code points, each with its value.
  pub values_of_drained : (cs : List ℕ) (items : List (ℕ × T)) → Drains GivesValue (with_values trie cs) items → AreValuesOf trie cs items
  values_of_drained cs items d =
      listed_values cs items (items_from_drains items (d.1.0, d.1.1, λ _. (d.0, d.1.2))
      (YieldsList-from_first value_item (λ left. left) (with_values trie cs) refl))

  -- Each run returns a prefix of what was left.
  pub value_runs : EveryRun (GivesValue {T = T}) (λ p. ItemsMapTo p value_item p.from)
  value_runs p s = from_front (GivesValue {T = T}) value_item (λ left. left) (λ s t h. ap length h.0) (λ s x t h. h) p s

  -- The first of the characters that are left.
  pub first_is : (text rest : List ℕ) (c : ℕ) (value : T) → IsUtf8 text → text ≡ encode_utf8 c ++ rest → Some value ≡ trie_value trie c
      → IsFirstValue trie text (c, value) rest
  first_is text rest c value u e v =
      record { first = record { bytes = e; characters = chars_past_char text rest c u e }; value = sym v }

  -- There are no more characters than bytes.
  pub values_fit : (text : List ℕ) → IsUtf8 text → length (with_values trie (chars text)) ≤ length text
  values_fit text u =
      omega (arith, length-with_values (chars text), length-le-encodes (chars text), ap (λ (bs : List ℕ). length bs) (encodes-chars text u))

  -- There are no more code points than units.
  pub units_fit : (units : List ℕ) → length (with_values trie (code_points_of units)) ≤ length units
  units_fit units = omega (arith, length-with_values (code_points_of units), length-code_points units)
