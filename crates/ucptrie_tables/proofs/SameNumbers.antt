-- A trie that has the numbers of another one, by the closure that maps it.
use Rattle.std.proofs.Common.{◌≡◌, ℕ, ◌^◌, ◌<◌, List, [], ◌∷◌, map, length, is_none, true, false, Option, Some, None, Result, Ok, Err, refl, sym, ap, ◌∙◌, arith}
use Rattle.std.specs.Prelude.{IfErr, IfOk}
use Rattle.std.specs.Option.{ok_or}
use Rattle.icu_trie.specs.Parts.{Parts}
use Rattle.icu_trie.specs.MappedTrie.{CallsInTurn, IsMapOfTrie, MapsInTurn}
use Rattle.icu_trie.specs.declared.map_value.MapError.{MapError}
use Rattle.icu_trie.specs.declared.map_value.MapError.TheVariants.{Closure, Memory}
use Rattle.ucptrie_tables.specs.Numbers.{HasNumbersOf, IsWhyNoNumbers, first_without}

module _ {F A B : Type 0} (step : F → A → Result B ℕ → F → Type 0) (number : A → ℕ) (of_number : ℕ → Option B)
    (same : (s : F) (x : A) (r : Result B ℕ) (t : F) → step s x r t → r ≡ ok_or (of_number (number x)) (number x))
    (bound : (s : F) (x : A) (r : Result B ℕ) (t : F) → step s x r t → IfErr r (λ n. n < 2 ^ 32)) where
  answered : (o : Option B) (n : ℕ) (y : B) → Ok y ≡ ok_or o n → o ≡ Some y
  answered None n y e = absurd (cc)
  answered (Some x) n y e = cc

  refused : (o : Option B) (n m : ℕ) → Err m ≡ ok_or o n → (o ≡ None) × (n ≡ m)
  refused None n m e = (refl, cc)
  refused (Some x) n m e = absurd (cc)

  of_step : (f : F) (x : A) (y : B) (g : F) → step f x (Ok y) g → of_number (number x) ≡ Some y
  of_step f x y g h = answered (of_number (number x)) (number x) y (same f x (Ok y) g h)

  values-in_turn : (f : F) (xs : List A) (ys : List B) (g : F) → CallsInTurn step f xs ys None g → length ys ≡ length xs
      → map Some ys ≡ map (λ x. of_number (number x)) xs
  values-in_turn f [] [] g calls len = refl
  values-in_turn f (x ∷ xs) [] g calls len = absurd (omega (arith, len))
  values-in_turn f [] (y ∷ ys) g calls len = absurd calls
  values-in_turn f (x ∷ xs) (y ∷ ys) g calls len =
      let here = of_step f x y calls.0 calls.1 in
      let rest = values-in_turn calls.0 xs ys g calls.2 (omega (arith, len)) in
      λ i. sym here i ∷ rest i

  first-in_turn : (f : F) (xs : List A) (ys : List B) (n : ℕ) (g : F) → CallsInTurn step f xs ys (Some n) g
      → first_without number of_number xs ≡ Some n
  first-in_turn f [] [] n g calls = absurd calls
  first-in_turn f [] (y ∷ ys) n g calls = absurd calls
  first-in_turn f (x ∷ xs) [] n g calls =
      let why = refused (of_number (number x)) (number x) n (same f x (Err n) g calls) in
      let none : is_none (of_number (number x)) ≡ true = rw why.0 refl in
      rw none (ap Some why.1)
  first-in_turn f (x ∷ xs) (y ∷ ys) n g calls =
      let here = of_step f x y calls.0 calls.1 in
      let some : is_none (of_number (number x)) ≡ false = rw here refl in
      rw some (first-in_turn calls.0 xs ys n g calls.2)

  refused-in_turn : (f : F) (xs : List A) (ys : List B) (n : ℕ) (g : F) → CallsInTurn step f xs ys (Some n) g
      → (n < 2 ^ 32) × (of_number n ≡ None)
  refused-in_turn f [] [] n g calls = absurd calls
  refused-in_turn f [] (y ∷ ys) n g calls = absurd calls
  refused-in_turn f (x ∷ xs) [] n g calls =
      let why = refused (of_number (number x)) (number x) n (same f x (Err n) g calls) in
      (bound f x (Err n) g calls, ap of_number (sym why.1) ∙ why.0)
  refused-in_turn f (x ∷ xs) (y ∷ ys) n g calls = refused-in_turn calls.0 xs ys n g calls.2

  module _ (f : F) (old_of_number : ℕ → Option A) (new_number : B → ℕ) (p : Parts A) where
    from_answers : (t : Parts B) (error null : A) (answers : List B) (refusal : Option ℕ) (last : F)
        → old_of_number p.header.null_value ≡ Some null
        → CallsInTurn step f (error ∷ null ∷ p.values) answers refusal last → IsMapOfTrie {E = ℕ} new_number p answers refusal (Ok t)
        → HasNumbersOf number old_of_number new_number of_number p t
    from_answers t error null answers (Some n) last null_is calls gives = absurd (cc)
    from_answers t error null [] None last null_is calls gives = absurd gives.1
    from_answers t error null (e ∷ []) None last null_is calls gives = absurd gives.1
    from_answers t error null (e ∷ n ∷ values) None last null_is calls gives =
        let rest = calls.2.2 in
        let whole = gives.1.1 in
        record {
          index = ap (λ (q : Parts B). q.index) whole;
          values = ap (λ (q : Parts B). map Some q.values) whole ∙ values-in_turn calls.2.0 p.values values last rest gives.1.0;
          old_null = null;
          old_null_is = null_is;
          null = n;
          null_is = of_step calls.0 null n calls.2.0 calls.2.1;
          header = ap (λ (q : Parts B). q.header) whole;
        }

    pub numbers-mapped : (t : Parts B) → MapsInTurn step f old_of_number new_number p (Ok t)
        → HasNumbersOf number old_of_number new_number of_number p t
    numbers-mapped t m = from_answers t m.error m.null m.answers m.refusal m.last m.null_is m.calls m.gives

    from_refusal : (n : ℕ) (xs : List A) (answers : List B) (refusal : Option ℕ) (last : F) → CallsInTurn step f xs answers refusal last
        → refusal ≡ Some n → (n < 2 ^ 32) × (of_number n ≡ None)
    from_refusal n xs answers refusal last calls is = refused-in_turn f xs answers n last (rw (sym is) calls)

    pub numbers-refused : (e : MapError ℕ) (n : ℕ) → e ≡ Closure n → MapsInTurn step f old_of_number new_number p (Err e)
        → (n < 2 ^ 32) × (of_number n ≡ None)
    numbers-refused Memory n is m = absurd (cc)
    numbers-refused (Closure k) n is m =
        let same_number : k ≡ n = cc in
        from_refusal n _ m.answers m.refusal m.last m.calls (m.gives ∙ ap Some same_number)

    first-refusal : (n : ℕ) (xs : List A) (answers : List B) (refusal : Option ℕ) (last : F) → CallsInTurn step f xs answers refusal last
        → refusal ≡ Some n → first_without number of_number xs ≡ Some n
    first-refusal n xs answers refusal last calls is = first-in_turn f xs answers n last (rw (sym is) calls)

    pub numbers-if_first : (r : Result (Parts B) (MapError ℕ)) → MapsInTurn step f old_of_number new_number p r
        → IfErr r (IsWhyNoNumbers number old_of_number of_number p)
    numbers-if_first (Ok t) m = tt
    numbers-if_first (Err Memory) m = tt
    numbers-if_first (Err (Closure n)) m = record {
      error = m.error;
      error_is = m.error_is;
      null = m.null;
      null_is = m.null_is;
      first = first-refusal n (m.error ∷ m.null ∷ p.values) m.answers m.refusal m.last m.calls m.gives;
    }

    pub numbers-if_ok : (r : Result (Parts B) (MapError ℕ)) → MapsInTurn step f old_of_number new_number p r
        → IfOk r (HasNumbersOf number old_of_number new_number of_number p)
    numbers-if_ok (Ok t) m = numbers-mapped t m
    numbers-if_ok (Err e) m = tt

    pub numbers-if_err : (r : Result (Parts B) (MapError ℕ)) → MapsInTurn step f old_of_number new_number p r
        → IfErr r (λ e. (n : ℕ) → e ≡ Closure n → (n < 2 ^ 32) × (of_number n ≡ None))
    numbers-if_err (Ok t) m = tt
    numbers-if_err (Err e) m = λ n is. numbers-refused e n is m
