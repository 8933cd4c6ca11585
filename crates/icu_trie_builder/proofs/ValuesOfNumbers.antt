-- The trie of the values in a builder's map, from the trie of their numbers.
use Rattle.std.proofs.Common.{◌≡◌, ℕ, ◌<◌, Bool, true, List, slice_index, Option, Some, None, refl, sym, subst}
use Rattle.std.specs.Prelude.{is_some}
use Rattle.std.specs.List.{AllPass}
use Rattle.icu_trie_core.specs.declared.header.CodePointTrieHeader.{CodePointTrieHeader}
use Rattle.icu_trie_core.specs.declared.header.TrieType.{TrieType}
use Rattle.icu_trie.specs.Parts.{Parts, parts_fault}
use Rattle.icu_trie_builder.specs.CodePointMap.{IsBuilder}
use Rattle.icu_trie_builder.specs.Inside.ValuesOfNumbers.{number_value, AreValuesOf}
use Rattle.icu_trie_builder.specs.Inside.NumberTrie.{IsNumberTrie}
use Rattle.icu_trie_builder.specs.MapAnswers.{AnswersMap}
use Rattle.icu_trie_builder.specs.Built.{IsBuiltFrom}
use Rattle.icu_trie_builder.specs.NullBlock.{HasDefaultNull}
use Rattle.icu_trie_builder.proofs.BuilderLemmas.{gives_back, all_numbers, number-of_value}
use Rattle.icu_trie_builder.proofs.RangesOfMap.{HasRangesOf-from_answers}
use Rattle.icu_trie_builder.proofs.SameMapLemmas.{HasDefaultNull-alike}
use Rattle.icu_trie_builder.proofs.TypedLemmas.{answers_map, no_fault, well_built}

module _ {T : Type 0} (V : T → Type 0) (number : T → ℕ) (of_number : ℕ → Option T) (back : (x : T) → V x → of_number (number x) ≡ Some x)
    (numbers : List ℕ) (default error : T) (sound : IsBuilder V number numbers default error)
    (h : CodePointTrieHeader) (index cells : List ℕ) (error_number default_number : ℕ) (is_error : error_number ≡ number error)
    (is_default : default_number ≡ number default)
    (built : IsNumberTrie (λ c. slice_index numbers c) error_number h index cells)
    (no_null : HasDefaultNull default_number h (λ c. slice_index numbers c))
    (null : (p : ℕ → Bool) → AllPass p numbers → p default_number ≡ true → p h.null_value ≡ true) where
  abbrev f : ℕ → T
  f = number_value of_number default numbers

  -- The null value is the number of a value.
  null_is : is_some (of_number h.null_value) ≡ true
  null_is = null (λ n. is_some (of_number n)) (all_numbers V number of_number back numbers default error sound)
      (rw (is_default, back default sound.default_value) refl)

  is : (c : ℕ) → c < 0x110000 → slice_index numbers c ≡ number (f c)
  is = number-of_value V number of_number back numbers default error sound

  built_is : IsNumberTrie (λ c. slice_index numbers c) (number error) h index cells
  built_is = subst (λ n. IsNumberTrie (λ c. slice_index numbers c) n h index cells) is_error built

  back_is : (c : ℕ) → c < 0x110000 → of_number (number (f c)) ≡ Some (f c)
  back_is = gives_back V number of_number back numbers default error sound

  -- What is true of the parts is true of the trie with these parts.
  by_parts : (Q : Parts T → Type 0) → ((values : List T) → AreValuesOf of_number cells values
      → Q (record { header = h; index = index; values = values }))
      → (t : Parts T) → t.header ≡ h → t.index ≡ index → AreValuesOf of_number cells t.values → Q t
  by_parts Q q t e i v =
      let whole : record { header = h; index = index; values = t.values } ≡ t =
      λ j. record { header = sym e j; index = sym i j; values = t.values } in
      subst Q whole (q t.values v)

  -- The trie is built from the map.
  pub map_trie : (kind : TrieType) → h.trie_type ≡ kind → (t : Parts T) → t.header ≡ h → t.index ≡ index
      → AreValuesOf of_number cells t.values → IsBuiltFrom number of_number f default error kind t
  map_trie kind of_kind = by_parts (IsBuiltFrom number of_number f default error kind) (λ values v.
      let t : Parts T = record { header = h; index = index; values = values } in
      let answers : AnswersMap f error t =
      answers_map of_number number f error (λ c. slice_index numbers c) h index cells values v back_is (back error sound.error_value) is
      built_is null_is in
      record {
        answers = answers;
        ranges = HasRangesOf-from_answers f error t answers;
        trie_type = of_kind;
        null_value = HasDefaultNull-alike (λ c. slice_index numbers c) (λ c. number (f c)) is (number default) h
            built_is.well_built.header.within
            (subst (λ n. HasDefaultNull n h (λ c. slice_index numbers c)) is_default no_null);
        built = well_built of_number number f error (λ c. slice_index numbers c) h index cells values v back_is
            (back error sound.error_value) is built_is null_is;
      })

  -- Its parts have no fault.
  pub map_no_fault : (values : List T) → AreValuesOf of_number cells values → parts_fault of_number h index values ≡ None
  map_no_fault values v = no_fault of_number number f error (λ c. slice_index numbers c) h index cells values v back_is
      (back error sound.error_value) is built_is null_is
