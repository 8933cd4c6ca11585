-- A trie of values, derived from the trie of their numbers.
use Rattle.std.proofs.Common.{◌≡◌, ℕ, ◌+◌, ◌-◌, ◌*◌, ◌<◌, ◌≤◌, nat_le, nat_lt, true, false, List, [], ◌∷◌, length, Option, Some, None, get_or, slice_get, refl, arith, sym, ◌∙◌, ap, subst, inl, inr}
use Rattle.std.specs.Prelude.{All, IsSome, is_some, is_none, if◌then◌else◌}
use Rattle.std.specs.Option.{option_and_then, option_map, option_or}
use Rattle.std.proofs.lemmas.Bool.{le-ltb, cases_lt}
use Rattle.std.proofs.lemmas.Bool.Decides.{nat_tests}
use Rattle.std.proofs.lemmas.List.{length-map}
use Rattle.std.proofs.lemmas.Option.{slice_get-get_or, slice_get-map, same_Some}
use Rattle.icu_trie_core.specs.Contents.{contents_of}
use Rattle.icu_trie_core.specs.declared.header.CodePointTrieHeader.{CodePointTrieHeader}
use Rattle.icu_trie_core.specs.Format.{answer, high_cell, high_value, place}
use Rattle.icu_trie_core.specs.FastIndex.{fast_index_len, passes_data}
use Rattle.icu_trie.specs.Parts.{Parts, last_cell, parts_fault}
use Rattle.icu_trie_core.specs.Coherence.{IsCoherent, IsShared, SameAnswers}
use Rattle.icu_trie_builder.specs.Inside.NumberTrie.{IsNumberTrie}
use Rattle.icu_trie_builder.specs.MapAnswers.{AnswersMap}
use Rattle.icu_trie_builder.specs.Built.{IsDrawnFrom, IsWellBuilt}
use Rattle.icu_trie_builder.specs.Inside.ValuesOfNumbers.{AreValuesOf}
use Rattle.icu_trie_builder.specs.Bounds.{data_bound, compact_data_bound}
use Rattle.icu_trie_builder.proofs.AboveLemmas.{above}
use Rattle.icu_trie_builder.proofs.SameMapLemmas.{data_bound-alike, compact_data_bound-alike, index_bound-alike, tight-alike, NamesNoNull-alike, NamesNull-alike}

option_map-Some : {A B : Type 0} (f : A → Option B) (v : Option B) (n : Option A) → option_map Some v ≡ option_map f n
    → v ≡ option_and_then f n
option_map-Some f None None e = refl
option_map-Some f None (Some n) e = absurd (cc e)
option_map-Some f (Some v) None e = absurd (cc e)
option_map-Some f (Some v) (Some n) e = same_Some _ _ e

module _ {T : Type 0} (of_number : ℕ → Option T) (numbers : List ℕ) (values : List T) (same : AreValuesOf of_number numbers values) where
  -- There are as many values as numbers.
  pub length-values : length values ≡ length numbers
  length-values = sym (length-map values (λ v. Some v)) ∙ ap length same ∙ length-map numbers of_number

  -- Each value is that of the number at the same position.
  pub get-values : (i : ℕ) → slice_get values i ≡ option_and_then of_number (slice_get numbers i)
  get-values i = option_map-Some of_number (slice_get values i) (slice_get numbers i)
      (sym (slice_get-map Some values i) ∙ ap (λ xs. slice_get xs i) same ∙ slice_get-map of_number numbers i)

  at_place : (p : Option ℕ) → option_and_then (slice_get values) p ≡ option_and_then of_number (option_and_then (slice_get numbers) p)
  at_place None = refl
  at_place (Some i) = get-values i

  -- A look-up in the trie of values yields the value of what a look-up in the trie of numbers
  -- yields.
  pub answer-values : (h : CodePointTrieHeader) (index : List ℕ) (u : ℕ)
      → answer h (contents_of index values) u ≡ option_and_then of_number (answer h (contents_of index numbers) u)
  unfolding answer
  answer-values h index u = ap (λ n. option_and_then (slice_get values) (place h index n u)) length-values
      ∙ at_place (place h index (length numbers) u)

  high_value-values : high_value values ≡ option_and_then of_number (high_value numbers)
  high_value-values = ap (λ n. option_and_then (slice_get values) (high_cell n)) length-values ∙ at_place (high_cell (length numbers))

  last_cell-values : last_cell values ≡ option_and_then of_number (last_cell numbers)
  last_cell-values = ap (λ n. slice_get values (n - 1)) length-values ∙ get-values (length numbers - 1)

some_length : {A : Type 0} (xs : List A) (x : A) → last_cell xs ≡ Some x → 0 < length xs
some_length [] x e = absurd (cc e)
some_length (y ∷ xs) x e = omega arith

is_some-of : {A : Type 0} (o : Option A) (x : A) → o ≡ Some x → IsSome o
is_some-of o x e = rw e refl

not-none : {A : Type 0} (o : Option A) → is_some o ≡ true → is_none o ≡ false
not-none None e = absurd (cc e)
not-none (Some x) e = refl

-- f has the number of each value of the map g, and the trie of numbers was built from f.
module _ {T : Type 0} (of_number : ℕ → Option T) (number : T → ℕ) (g : ℕ → T) (error : T) (f : ℕ → ℕ)
    (h : CodePointTrieHeader) (index numbers : List ℕ) (values : List T) (same : AreValuesOf of_number numbers values)
    (back : (c : ℕ) → c < 0x110000 → of_number (number (g c)) ≡ Some (g c)) (error_back : of_number (number error) ≡ Some error)
    (is : (c : ℕ) → c < 0x110000 → f c ≡ number (g c)) (built : IsNumberTrie f (number error) h index numbers)
    (null_is : is_some (of_number h.null_value) ≡ true) where
  -- The number of a code point's value is what the trie of numbers yields.
  number_answer : (c : ℕ) → c < 0x110000 → answer h (contents_of index numbers) c ≡ Some (number (g c))
  number_answer c l = built.answers c l ∙ ap (λ n. Some n) (is c l)

  pub value_answer : (c : ℕ) → c < 0x110000 → answer h (contents_of index values) c ≡ Some (g c)
  value_answer c l = answer-values of_number numbers values same h index c ∙ ap (option_and_then of_number) (number_answer c l) ∙ back c l

  error_cell : last_cell values ≡ Some error
  error_cell = last_cell-values of_number numbers values same ∙ ap (option_and_then of_number) built.error_value ∙ error_back

  look_up_is : (u : ℕ) → answer h (contents_of index values) u ≡ (if nat_le u 0x10FFFF then Some (g u) else None)
  look_up_is u = elim (cases_lt u 0x110000) [
    | inl below ↦ (let t : nat_le u 0x10FFFF ≡ true = grind (arith, nat_tests) in rw t (value_answer u below))
    | inr past ↦ (let t : nat_le u 0x10FFFF ≡ false = grind (arith, nat_tests) in rw t (above h index values u past))
  ]

  value_is : (u : ℕ) → option_or (answer h (contents_of index values) u)
      (last_cell values) ≡ Some (if nat_le u 0x10FFFF then g u else error)
  value_is u = elim (cases_lt u 0x110000) [
    | inl below ↦ (let t : nat_le u 0x10FFFF ≡ true = grind (arith, nat_tests) in rw (t, value_answer u below) refl)
    | inr past ↦ (let t : nat_le u 0x10FFFF ≡ false = grind (arith, nat_tests) in rw (t, above h index values u past) error_cell)
  ]

  -- The trie of values has the values of the map.
  pub answers_map : AnswersMap g error (record { header = h; index = index; values = values })
  answers_map = record { look_up = look_up_is; value = value_is }

  -- Its parts have no fault.
  pub no_fault : parts_fault of_number h index values ≡ None
  no_fault =
      let len : nat_lt (length values) 1 ≡ false = le-ltb (length values) 1 (omega (arith, some_length values error error_cell)) in
      let null : is_none (of_number h.null_value) ≡ false = not-none (of_number h.null_value) null_is in
      let fast : nat_lt (length index) (fast_index_len h.trie_type) ≡ false =
      le-ltb (length index) (fast_index_len h.trie_type) built.fast_index in
      let inside : passes_data h.trie_type index (length values) ≡ false =
      ap (passes_data h.trie_type index) (length-values of_number numbers values same) ∙ built.fast_data in
      rw (len, null, fast, inside) refl

  -- Null blocks and the high value correspond to those of the numbers.
  pub coherent_values : IsCoherent of_number h (contents_of index values)
  coherent_values =
      let numbers_coherent = built.well_built.coherent in
      let by = answer-values of_number numbers values same h index in
      record {
        aligned = numbers_coherent.aligned;
        within = numbers_coherent.within;
        high = λ c from below.
            let high : high_value values ≡ answer h (contents_of index values) c = high_value-values of_number numbers values same
            ∙ ap (option_and_then of_number) (sym (numbers_coherent.high c from below).0) ∙ sym (by c) in
            (sym high, is_some-of (high_value values) (g c) (high ∙ value_answer c below));
        inside = λ c below. is_some-of (answer h (contents_of index values) c) (g c)
            (value_answer c (omega (arith, below, numbers_coherent.within)));
        null_64 = λ b low below at i l. by (b * 64 + i) ∙ ap (option_and_then of_number) (numbers_coherent.null_64 b low below at i l);
        null_16 = λ b from below at i l. by (b * 16 + i) ∙ ap (option_and_then of_number) (numbers_coherent.null_16 b from below at i l);
        null_512 = λ b from below at i l. by (b * 512 + i) ∙ ap (option_and_then of_number) (numbers_coherent.null_512 b from below at i l);
      }

  -- Blocks with equal values have equal numbers.
  same_numbers : (k b d : ℕ) → b * k + k ≤ 0x110000 → d * k + k ≤ 0x110000 → SameAnswers h (contents_of index values) k b d
      → SameAnswers h (contents_of index numbers) k b d
  same_numbers k b d inside_b inside_d alike i l =
      let left : b * k + i < 0x110000 = omega (arith, l, inside_b) in
      let right : d * k + i < 0x110000 = omega (arith, l, inside_d) in
      let one : g (b * k + i) ≡ g (d * k + i) =
      same_Some _ _ (sym (value_answer (b * k + i) left) ∙ alike i l ∙ value_answer (d * k + i) right) in
      number_answer (b * k + i) left ∙ ap (λ x. Some (number x)) one ∙ sym (number_answer (d * k + i) right)

  pub shared_values : IsShared h (contents_of index values)
  shared_values =
      let numbers_shared = built.well_built.shared in
      let aligned = built.well_built.header.aligned in
      let within = built.well_built.header.within in
      record {
        fast = λ b d sb sd alike. numbers_shared.fast b d sb sd
            (same_numbers 64 b d (omega (arith, sb.2, aligned, within)) (omega (arith, sd.2, aligned, within)) alike);
        small = λ b d sb sd alike. numbers_shared.small b d sb sd
            (same_numbers 16 b d (omega (arith, sb.2, aligned, within)) (omega (arith, sd.2, aligned, within)) alike);
        index2 = λ b d sb sd alike. numbers_shared.index2 b d sb sd
            (same_numbers 512 b d (omega (arith, sb.2, aligned, within)) (omega (arith, sd.2, aligned, within)) alike);
      }

  -- Each cell is the value of a code point, or the error value, as its number is.
  drawn_values : All (IsDrawnFrom of_number (λ c. number (g c)) values) values
  drawn_values = λ k d l.
      let inside : k < length numbers = omega (arith, l, length-values of_number numbers values same) in
      let cell : of_number (get_or numbers k 0) ≡ Some (get_or values k d) =
      sym (sym (slice_get-get_or values k d l) ∙ get-values of_number numbers values same k
      ∙ ap (option_and_then of_number) (slice_get-get_or numbers k 0 inside)) in
      elim (built.well_built.drawn k 0 inside) [
        | inl w ↦ inl (w.0, w.1, ap of_number (sym (is w.0 w.1) ∙ same_Some _ _ w.2) ∙ cell)
        | inr last ↦ inr (last_cell-values of_number numbers values same ∙ ap (option_and_then of_number) last ∙ cell)
      ]

  pub well_built : IsWellBuilt of_number (λ c. number (g c)) (record { header = h; index = index; values = values })
  well_built =
      let bound : length numbers ≤ data_bound h.trie_type (λ c. number (g c)) =
      subst (λ n. length numbers ≤ n) (data_bound-alike f (λ c. number (g c)) is h.trie_type) built.well_built.data_cells in
      record {
        header = built.well_built.header;
        coherent = coherent_values;
        shared = shared_values;
        drawn = drawn_values;
        data_cells = subst (λ n. n ≤ data_bound h.trie_type (λ c. number (g c))) (sym (length-values of_number numbers values same)) bound;
        index_cells = subst (λ n. length index ≤ n) (index_bound-alike f (λ c. number (g c)) is h.trie_type) built.well_built.index_cells;
        compact_data = subst (λ n. n ≤ compact_data_bound h.trie_type (λ c. number (g c)))
            (sym (length-values of_number numbers values same))
            (subst (λ n. length numbers ≤ n) (compact_data_bound-alike f (λ c. number (g c)) is h.trie_type) built.well_built.compact_data);
        null_block = NamesNull-alike f (λ c. number (g c)) is h index built.well_built.header.within built.well_built.null_block;
        no_null_block = NamesNoNull-alike f (λ c. number (g c)) is h built.well_built.header.within built.well_built.no_null_block;
        null_index = built.well_built.null_index;
        tight = tight-alike f (λ c. number (g c)) is h.trie_type (length index) built.well_built.tight;
      }

-- What is drawn from a map is drawn from any map that is equal to it on all code points.
IsDrawnFrom-alike : {T : Type 0} (of_number : ℕ → Option T) (f g : ℕ → ℕ) → ((c : ℕ) → c < 0x110000 → f c ≡ g c)
    → (values : List T) (v : T) → IsDrawnFrom of_number f values v → IsDrawnFrom of_number g values v
IsDrawnFrom-alike of_number f g same values v (inl w) = inl (w.0, w.1, ap of_number (sym (same w.0 w.1)) ∙ w.2)
IsDrawnFrom-alike of_number f g same values v (inr last) = inr last

-- A trie that is well built from a map is well built from any map that is equal to it on all code
-- points.
pub IsWellBuilt-alike : {T : Type 0} (of_number : ℕ → Option T) (f g : ℕ → ℕ) → ((c : ℕ) → c < 0x110000 → f c ≡ g c) → (t : Parts T)
    → IsWellBuilt of_number f t → IsWellBuilt of_number g t
IsWellBuilt-alike of_number f g same t w = record {
  header = w.header;
  coherent = w.coherent;
  shared = w.shared;
  drawn = λ k d l. IsDrawnFrom-alike of_number f g same t.values (get_or t.values k d) (w.drawn k d l);
  data_cells = subst (λ n. length t.values ≤ n) (data_bound-alike f g same t.header.trie_type) w.data_cells;
  index_cells = subst (λ n. length t.index ≤ n) (index_bound-alike f g same t.header.trie_type) w.index_cells;
  compact_data = subst (λ n. length t.values ≤ n) (compact_data_bound-alike f g same t.header.trie_type) w.compact_data;
  null_block = NamesNull-alike f g same t.header t.index w.header.within w.null_block;
  no_null_block = NamesNoNull-alike f g same t.header w.header.within w.no_null_block;
  null_index = w.null_index;
  tight = tight-alike f g same t.header.trie_type (length t.index) w.tight;
}
