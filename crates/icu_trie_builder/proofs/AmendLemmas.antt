-- Reading a map, and making one from the values of a trie.
use Rattle.std.proofs.Common.{◌≡◌, ◌≢◌, ℕ, ◌+◌, ◌-◌, ◌<◌, ◌≤◌, ◌⊎◌, inl, inr, Bool, true, false, nat_le, cond, List, [], ◌∷◌, length, get_or, Option, Some, unwrap_or, refl, sym, ap, arith, ◌∙◌}
use Rattle.std.specs.Option.{option_or}
use Rattle.std.specs.Range.{range_inclusive_start, range_inclusive_end}
use Rattle.std.specs.declared.ops.RangeInclusive.{RangeInclusive}
use Rattle.std.proofs.lemmas.Bool.Decides.{nat_tests}
use Rattle.icu_trie_core.specs.Runs.{LongestRun}
use Rattle.icu_trie.specs.Parts.{Parts, last_cell, trie_value}
use Rattle.icu_trie_builder.specs.CodePointMap.{CodePointMap, IsAfter, IsBuilder, map_answer, map_value}
use Rattle.icu_trie_builder.specs.Inside.ValuesOfNumbers.{number_value}
use Rattle.icu_trie_builder.specs.declared.writes.Write.TheVariants.{Range}
use Rattle.icu_trie_builder.proofs.AboveLemmas.{above}
use Rattle.icu_trie_builder.proofs.AfterLemmas.{value_after-filled}
use Rattle.icu_trie_builder.proofs.BuilderLemmas.{number-of_value}
use Rattle.icu_trie_builder.proofs.WholeLemmas.{number_value-at}

-- The value of a code point.
pub map_answer-inside : {T : Type 0} (m : CodePointMap T) (u : ℕ) → u < 0x110000 → map_answer m u ≡ map_value m u
map_answer-inside m u l = grind (arith, nat_tests)

-- The value above 0x10FFFF.
pub map_answer-above : {T : Type 0} (m : CodePointMap T) (u : ℕ) → 0x110000 ≤ u → map_answer m u ≡ m.error
map_answer-above m u l = grind (arith, nat_tests)

-- A code point with the number of v has the value v.
pub number_value-is : {T : Type 0} (of_number : ℕ → Option T) (default : T) (numbers : List ℕ) (c n : ℕ) (v : T) → c < length numbers
    → get_or numbers c 0 ≡ n → of_number n ≡ Some v → number_value of_number default numbers c ≡ v
number_value-is of_number default numbers c n v l e is =
    number_value-at of_number default numbers c l ∙ ap (λ x. unwrap_or (of_number x) default) e ∙ ap (λ o. unwrap_or o default) is

-- If code points have one number up to one that has another number, they are the longest run of the
-- value.
pub longest-of_numbers : {T : Type 0} (V : T → Type 0) (number : T → ℕ) (of_number : ℕ → Option T)
    → ((x : T) → V x → of_number (number x) ≡ Some x)
    → (numbers : List ℕ) (default error : T) → IsBuilder V number numbers default error
    → (first last end n : ℕ) (v : T) → last ≡ end - 1 → get_or numbers first 0 ≡ n → of_number n ≡ Some v → first < 0x110000 → first ≤ end
    → end ≤ 0x110000
    → ((c : ℕ) → first ≤ c → c < end → get_or numbers c 0 ≡ n) → (end < 0x110000 → get_or numbers end 0 ≢ n)
    → LongestRun (number_value of_number default numbers) first last v
longest-of_numbers V number of_number back numbers default error sound first last end n v is_last here is below from within same other =
    let whole = sound.whole in
    let more : first ≢ end = λ e. other (omega (arith, below, e)) (rw (← e) here) in
    let next : last + 1 ≡ end = omega (arith, from, more, is_last) in
    let at = number-of_value V number of_number back numbers default error sound in
    let own : n ≡ number v = sym here ∙ at first below
    ∙ ap number (number_value-is of_number default numbers first n v (omega (arith, below, whole)) here is) in
    record {
      ordered = omega (arith, from, more, next);
      within = omega (arith, within, next);
      equal = λ u a b. number_value-is of_number default numbers u n v (omega (arith, b, within, next, whole))
          (same u a (omega (arith, b, next))) is;
      ends = λ l e. let inside : end < 0x110000 = omega (arith, l, next) in
          other inside (at end inside ∙ ap number (ap (number_value of_number default numbers) (sym next) ∙ e) ∙ sym own);
    }

-- The map after a write of a range.
module _ {T : Type 0} (r : RangeInclusive ℕ) (v : T) (old new : CodePointMap T) (after : IsAfter (Range r v ∷ []) old new)
    (ordered : range_inclusive_start r ≤ range_inclusive_end r) (within : range_inclusive_end r < 0x110000) where
  pub IsAfter-inside : (c : ℕ) → range_inclusive_start r ≤ c → c ≤ range_inclusive_end r → map_value new c ≡ v
  IsAfter-inside c low high =
      after.values c (omega (arith, high, within))
      ∙ sym (value_after-filled (Range r v) (map_value old c) v c ordered (omega (arith, ordered, within)) (omega (arith, high, within))
      (λ a b. refl) (λ a. absurd (omega (arith, a, low))) (λ a. absurd (omega (arith, a, high))))

  pub IsAfter-outside : (c : ℕ) → c < 0x110000 → (c < range_inclusive_start r) ⊎ (range_inclusive_end r < c)
      → map_value new c ≡ map_value old c
  IsAfter-outside c l out =
      after.values c (omega (arith, l)) ∙ sym (value_after-filled (Range r v) (map_value old c)
      (map_value old c) c ordered (omega (arith, ordered, within)) (omega (arith, l))
      (λ a b. elim out [ inl below ↦ absurd (omega (arith, below, a)) | inr past ↦ absurd (omega (arith, past, b)) ]) (λ a. refl)
      (λ a. refl))

-- A map with the values of a trie and its error value returns what the trie returns.
pub answers-of_trie : {T : Type 0} (m : CodePointMap T) (t : Parts T) → ((u : ℕ) → u < 0x110000 → trie_value t u ≡ Some (map_value m u))
    → Some m.error ≡ last_cell t.values → (u : ℕ) → Some (map_answer m u) ≡ trie_value t u
answers-of_trie m t values error u = by (nat_le u 0x10FFFF) refl
  where
    by : (b : Bool) → nat_le u 0x10FFFF ≡ b → Some (cond b (map_value m u) m.error) ≡ trie_value t u
    by true h = let l : u < 0x110000 = grind (arith, nat_tests) in sym (values u l)
    by false h = let l : 0x110000 ≤ u = grind (arith, nat_tests) in
        error ∙ sym (ap (λ o. option_or o (last_cell t.values)) (above t.header t.index t.values u l))
