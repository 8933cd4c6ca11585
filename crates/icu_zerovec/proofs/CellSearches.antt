-- A search among cells is a search among their values.
use Rattle.std.proofs.Common.{◌≡◌, ℕ, ◌/◌, ◌<◌, List, [], length, get_or, Option, Some, None, Result, true, refl, arith, sym, ◌∙◌, ap, subst}
use Rattle.std.specs.declared.result.Result.TheVariants.{Ok, Err}
use Rattle.std.specs.declared.cmp.Ordering.{Ordering}
use Rattle.std.specs.Option.{is_some}
use Rattle.std.specs.Ordering.{ordering_index}
use Rattle.std.specs.List.Sorted.{IsSearchInRange, IsBinarySearchResult, IsNonDecreasingBy}
use Rattle.std.specs.Simd.{first_chunks}
use Rattle.std.proofs.lemmas.Bool.{cond-true, eq-eqb}
use Rattle.std.proofs.lemmas.Option.{get_or_from_slice_get}
use Rattle.icu_zerovec.specs.Cells.{cell, values_of, IsPacked}
use Rattle.icu_zerovec.proofs.CellsLemmas.{get-values_of, length-values_of}
use Rattle.icu_zerovec.specs.CellOrder.{value_order, cell_order}
use Rattle.icu_zerovec.proofs.Chunks.{get_or-chunks, length-chunks, length-cell}

some_value : {T : Type 0} (o : Option T) → is_some o ≡ true → (x : T) × (o ≡ Some x)
some_value None h = cc
some_value (Some x) h = (x, refl)

module _ {T : Type 0} (f : List ℕ → Option T) (w : ℕ) (ord : T → Ordering) (b : List ℕ) (p : IsPacked f w b) where
  abbrev n : ℕ
  n = length b / w

  abbrev cells : List (List ℕ)
  cells = first_chunks w n b

  abbrev vals : List T
  vals = values_of f w b

  -- There is a value at each index.
  value_at : (i : ℕ) → i < n → (x : T) × (f (cell w b i) ≡ Some x)
  value_at i l = some_value (f (cell w b i)) (p.valued i l)

  -- A cell compares as its value.
  same_order : (i : ℕ) → i < n → (d : List ℕ) (e : T) → cell_order f w ord (get_or cells i d) ≡ ord (get_or vals i e)
  same_order i l d e =
      let x = value_at i l in
      let v : get_or vals i e ≡ x.0 = get_or_from_slice_get vals i x.0 e (get-values_of f w b i p l ∙ x.1) in
      ap (cell_order f w ord) (get_or-chunks w n i b d l)
      ∙ (cond-true _ _ _ (eq-eqb _ _ (length-cell w i b l)) ∙ (ap (value_order ord) x.1 ∙ ap ord (sym v)))

  rises : IsNonDecreasingBy (λ y. ordering_index (ord y)) vals → IsNonDecreasingBy (λ c. ordering_index (cell_order f w ord c)) cells
  rises r i j d a l =
      let k : j < n = omega (arith, l, length-chunks w n b) in
      let e = (value_at j k).0 in
      let s = r i j e a (omega (arith, k, length-values_of f w b p)) in
      rw (same_order i (omega arith) d e, same_order j k d e) s

  among_cells : (r : Result ℕ ℕ) → IsSearchInRange r (length cells) → IsBinarySearchResult (cell_order f w ord) cells r
      → IsBinarySearchResult ord vals r
  among_cells (Ok i) h s = λ e. sym (same_order i (omega (arith, h, length-chunks w n b)) [] e) ∙ s []
  among_cells (Err i) h s = λ r. let t = s (rises r) in (
    λ k e a l. sym (same_order k (omega (arith, l, h, length-chunks w n b)) [] e) ∙ t.0 k [] a l,
    λ k e a l. let m : k < n = omega (arith, l, length-values_of f w b p) in
        sym (same_order k m [] e) ∙ t.1 k [] a (omega (arith, m, length-chunks w n b)),
  )

  pub among_values : (xs : List (List ℕ)) → xs ≡ cells → (r : Result ℕ ℕ) → IsSearchInRange r (length xs)
      → IsBinarySearchResult (cell_order f w ord) xs r → IsBinarySearchResult ord vals r
  among_values xs q r h s =
      among_cells r (subst (λ ys. IsSearchInRange r (length ys)) q h) (subst (λ ys. IsBinarySearchResult (cell_order f w ord) ys r) q s)

pub in_range : {T : Type 0} (f : List ℕ → Option T) (w : ℕ) (b : List ℕ) → IsPacked f w b → (xs : List (List ℕ))
    → xs ≡ first_chunks w (length b / w) b → (r : Result ℕ ℕ) → IsSearchInRange r (length xs) → IsSearchInRange r (length (values_of f w b))
in_range f w b p xs q (Ok i) h = omega (arith, h, ap length q, length-chunks w (length b / w) b, length-values_of f w b p)
in_range f w b p xs q (Err i) h = omega (arith, h, ap length q, length-chunks w (length b / w) b, length-values_of f w b p)
