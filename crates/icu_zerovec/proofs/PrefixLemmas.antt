-- The first n cells of packed bytes are packed, and have the first n values.
use Rattle.std.proofs.Common.{◌≡◌, ℕ, zero, suc, ◌+◌, ◌*◌, ◌/◌, ◌%◌, ◌<◌, ◌≤◌, List, ◌++◌, length, take, drop, Option, refl, true, arith, sym, ◌∙◌, ap}
use Rattle.std.specs.Option.{is_some, option_to_list}
use Rattle.std.proofs.Math.Nat.{le-div_iff_mul-le, mul-mod_left, suc-mul}
use Rattle.std.proofs.lemmas.List.{drop-take, length-take-le}
use Rattle.icu_zerovec.specs.Cells.{cell, values_from, values_of, IsPacked}
use Rattle.icu_zerovec.proofs.CellsLemmas.{AreBytes-take, front-take, first_some, length-values_of, rest_some}
use Rattle.icu_zerovec.proofs.Chunks.{cell-front, length-front, take-front}

module _ {T : Type 0} (f : List ℕ → Option T) (w : ℕ) where
  -- The values of the first n cells are the first n values.
  take-values_from : (b : List ℕ) (n m : ℕ) → n ≤ m → ((i : ℕ) → i < m → is_some (f (cell w b i)) ≡ true)
      → values_from f w (take (n * w) b) n ≡ take n (values_from f w b m)
  take-values_from b zero m l s = refl
  take-values_from b (suc n) zero l s = absurd (omega arith)
  take-values_from b (suc n) (suc m) l s =
      let e : suc n * w ≡ w + n * w = omega (arith, suc-mul n w) in
      let first : take w (take (suc n * w) b) ≡ take w b = ap (λ k. take w (take k b)) e ∙ take-front w (w + n * w) b (omega arith) in
      let rest : drop w (take (suc n * w) b) ≡ take (n * w) (drop w b) = ap (λ k. drop w (take k b)) e ∙ drop-take w (n * w) b in
      ap (λ c. option_to_list (f c) ++ values_from f w (drop w (take (suc n * w) b)) n) first
      ∙ ap (λ r. option_to_list (f (take w b)) ++ values_from f w r n) rest
      ∙ ap (λ r. option_to_list (f (take w b)) ++ r) (take-values_from (drop w b) n m (omega arith) (rest_some f w b m s))
      ∙ sym (front-take (f (take w b)) (values_from f w (drop w b) m) n (first_some f w b m s))

  module _ (b : List ℕ) (n : ℕ) (positive : 0 < w) (p : IsPacked f w b) (l : n ≤ length (values_of f w b)) where
    -- There are as many cells.
    pub within_cells : n ≤ length b / w
    within_cells = omega (arith, length-values_of f w b p)

    -- They fit the bytes.
    pub within_bytes : n * w ≤ length b
    within_bytes = (le-div_iff_mul-le {k = w} {x = n} {y = length b} positive).0 within_cells

    -- They are packed.
    pub IsPacked-front : IsPacked f w (take (n * w) b)
    IsPacked-front = record {
      whole = ap (λ k. k % w) (length-take-le (n * w) b within_bytes) ∙ mul-mod_left n w;
      valued = λ i k.
          let below : i < n = rw (length-front w n b positive within_cells) at k in
          rw (cell-front w n i b below) (p.valued i (omega (arith, below, within_cells)));
      small = AreBytes-take (n * w) b p.small;
    }

    -- They have the first n values.
    pub take-values_of : values_of f w (take (n * w) b) ≡ take n (values_of f w b)
    unfolding values_of
    take-values_of = ap (values_from f w (take (n * w) b)) (length-front w n b positive within_cells)
        ∙ take-values_from b n (length b / w) within_cells p.valued
