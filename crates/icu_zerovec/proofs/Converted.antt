-- A conversion value by value, for callers of `ZeroVec::try_into_converted`.
use Rattle.std.proofs.Common.{◌≡◌, ℕ, ◌/◌, ◌<◌, List, length, slice_get, Option, Result, Ok, Err, arith, sym, ◌∙◌, ap, inl, inr}
use Rattle.std.specs.Prelude.{IfOk, IfErr}
use Rattle.std.proofs.lemmas.Bool.{cases_lt}
use Rattle.std.specs.Option.{option_and_then, option_map}
use Rattle.icu_zerovec.specs.Canonical.{IsCanonical}
use Rattle.icu_zerovec.specs.Cells.{cell, IsConverted, IsFirstRefusedCell}
use Rattle.icu_zerovec.specs.declared.ule.UleError.{UleError}
use Rattle.icu_zerovec.specs.declared.ule.UleError.TheVariants.{Length, Cell}
use Rattle.icu_zerovec.proofs.CellsLemmas.{pack-get, get-values_of, get_past-values_of, length-values_of}

-- A conversion, value by value, if each value of the first type has one encoding.
module _ {T P : Type 0} (f : List ℕ → Option T) (w : ℕ) (g : List ℕ → Option P) (pack : T → List ℕ) (one : IsCanonical pack f w)
    (xs : List T) where
  -- What the second type reads from the bytes of value i is what it reads from cell i.
  read_at : (r : Result (List P) UleError) (c : IsConverted f w g w xs r) (i : ℕ) → i < length c.bytes / w
      → option_and_then g (option_map pack (slice_get xs i)) ≡ g (cell w c.bytes i)
  read_at r c i l =
      ap (λ l. option_and_then g (option_map pack (slice_get l i))) (sym c.values)
      ∙ ap (option_and_then g) (pack-get f w pack one c.bytes i c.packed l)

  -- Value i of the result is what the second type reads from the bytes of value i.
  pub converted_ok : (r : Result (List P) UleError) → IsConverted f w g w xs r
      → IfOk r (λ ys. (i : ℕ) → slice_get ys i ≡ option_and_then g (option_map pack (slice_get xs i)))
  converted_ok (Ok ys) c = λ i. elim (cases_lt i (length c.bytes / w)) [
    | inl l ↦ ap (λ l. slice_get l i) c.ok.1 ∙ get-values_of g w c.bytes i c.ok.0 l ∙ sym (read_at (Ok ys) c i l)
    | inr l ↦ ap (λ l. slice_get l i) c.ok.1 ∙ get_past-values_of g w c.bytes i c.ok.0 l
        ∙ sym (ap (λ l. option_and_then g (option_map pack (slice_get l i))) (sym c.values)
        ∙ ap (λ o. option_and_then g (option_map pack o)) (get_past-values_of f w c.bytes i c.packed l))
  ]
  converted_ok (Err e) c = tt

  -- The fault is the first value whose bytes the second type does not read.
  pub converted_err : (r : Result (List P) UleError) → IsConverted f w g w xs r → IfErr r (IsFirstRefusedCell pack g xs)
  converted_err (Ok ys) c = tt
  converted_err (Err Length) c = absurd (c.err c.packed.whole)
  converted_err (Err (Cell i)) c =
      let n = ap length (sym c.values) ∙ length-values_of f w c.bytes c.packed in (
        omega (arith, n, c.err.1),
        rw (read_at (Err (Cell i)) c i c.err.1) c.err.2,
        λ j l. rw (read_at (Err (Cell i)) c j (omega (arith, c.err.1))) (c.err.3 j l),
      )
