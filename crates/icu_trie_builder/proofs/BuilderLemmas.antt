-- The numbers in a builder's map are numbers of values.
use Rattle.std.proofs.Common.{◌≡◌, ℕ, suc, ◌<◌, List, [], ◌∷◌, length, map, slice_index, Option, Some, None, refl, arith, ◌∙◌, ap, sym, Result, Ok, Err, true, false}
use Rattle.std.specs.Prelude.{is_some, is_err, unwrap_or, IfOk, OnErr, OnOk}
use Rattle.std.specs.Result.{result_unwrap_or}
use Rattle.std.specs.List.{AllPass}
use Rattle.icu_trie_builder.specs.CodePointMap.{IsBuilder, value_of_number}
use Rattle.icu_trie_builder.specs.Inside.ValuesOfNumbers.{AreValuesOf, number_value}
use Rattle.icu_trie_builder.proofs.WholeLemmas.{number-back, number_value-at, value-back}

module _ {T : Type 0} (V : T → Type 0) (number : T → ℕ) (of_number : ℕ → Option T) (back : (x : T) → V x → of_number (number x) ≡ Some x)
    (numbers : List ℕ) (default error : T) (sound : IsBuilder V number numbers default error) where
  -- The number of a code point is the number of its value.
  pub number-of_value : (k : ℕ) → k < 0x110000 → slice_index numbers k ≡ number (number_value of_number default numbers k)
  number-of_value k l =
      let lt : k < length numbers = omega (arith, l, sound.whole) in
      sym (ap number (number_value-at of_number default numbers k lt)
      ∙ number-back of_number default V number back (slice_index numbers k) (sound.all_numbers k 0 lt))

  -- The number of a code point's value gives the value back.
  pub gives_back : (k : ℕ) → k < 0x110000 → of_number (number (number_value of_number default numbers k))
      ≡ Some (number_value of_number default numbers k)
  gives_back k l =
      let lt : k < length numbers = omega (arith, l, sound.whole) in
      back (number_value of_number default numbers k)
      (rw (number_value-at of_number default numbers k lt)
      (value-back of_number default V number back (slice_index numbers k) (sound.all_numbers k 0 lt)))

  -- Each number is the number of a value.
  pub all_numbers : AllPass (λ n. is_some (of_number n)) numbers
  all_numbers = λ k d l. let w = sound.all_numbers k d l in rw (← w.2, back w.0 w.1) refl

-- What a conversion returned, or else the default.
pub unwrap_or-converted : {T E : Type 0} (o : Option T) (r : Result T E) (default : T) → IfOk r (λ x. o ≡ Some x) → OnErr r (o ≡ None)
    → result_unwrap_or r default ≡ unwrap_or o default
unwrap_or-converted o (Ok x) default ok err = sym (ap (λ p. unwrap_or p default) ok)
unwrap_or-converted o (Err e) default ok err = sym (ap (λ p. unwrap_or p default) err)

-- A list of the values of numbers, one by one.
pub AreValuesOf-by : {T : Type 0} (of_number : ℕ → Option T) (default : T) (numbers : List ℕ) (values : List T)
    → values ≡ map (value_of_number of_number default) numbers → AllPass (λ n. is_some (of_number n)) numbers
    → AreValuesOf of_number numbers values
AreValuesOf-by {T} of_number default numbers values is all = rw is (by numbers all)
  where
    some : (o : Option T) → is_some o ≡ true → Some (unwrap_or o default) ≡ o
    some (Some x) h = refl
    some None h = absurd (cc h)

    by : (ns : List ℕ) → AllPass (λ n. is_some (of_number n)) ns → map Some (map (value_of_number of_number default) ns) ≡ map of_number ns
    by [] h = refl
    by (n ∷ ns) h =
        rw (some (of_number n) (h 0 0 (omega arith)), by ns (λ k d l. h (suc k) d (omega (arith, l)))) refl

-- Three facts about one result, combined.
pub IfOk-three : {X Y : Type 0} (r : Result X Y) (A B C Q : X → Type 0) → ((x : X) → A x → B x → C x → Q x) → IfOk r A → IfOk r B → IfOk r C
    → IfOk r Q
IfOk-three (Ok x) A B C Q h a b c = h x a b c
IfOk-three (Err e) A B C Q h a b c = tt

-- What a successful call did.
pub from_ok : {X Y : Type 0} (r : Result X Y) (P : Type 0) → false ≡ is_err r → OnOk r P → P
from_ok (Ok x) P h p = p
from_ok (Err e) P h p = absurd (cc h)
