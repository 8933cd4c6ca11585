-- The bytes of one value among packed bytes.
use Rattle.std.proofs.Common.{◌≡◌, ℕ, ◌+◌, ◌-◌, ◌*◌, ◌/◌, ◌<◌, ◌≤◌, List, length, take, drop, slice_get, Option, Some, arith, sym, ◌∙◌, ap}
use Rattle.std.specs.List.{slice_range}
use Rattle.std.specs.Option.{option_map}
use Rattle.std.proofs.lemmas.Nat.{div-add-mod', row_fits}
use Rattle.icu_zerovec.specs.Canonical.{IsCanonical}
use Rattle.icu_zerovec.specs.Cells.{cell, values_of, IsPacked}
use Rattle.icu_zerovec.proofs.CallerLemmas.{length-values_of, get-values_of, pack-get}

-- The index i is below the number n of values that are packed in the bytes b.
module _ {T : Type 0} {f : List ℕ → Option T} {w : ℕ} {b : List ℕ} {values : List T} {n : ℕ} (p : IsPacked f w b)
    (are : values ≡ values_of f w b) (count : n ≡ length values) (i : ℕ) (l : i < n) where
  within : i < length b / w
  within = omega (arith, l, count, ap length are, length-values_of f w b p)

  -- The value's bytes are within b.
  pub cell_fits : i * w + w ≤ length b
  cell_fits = omega (arith, row_fits i w (length b / w) w within (omega arith), div-add-mod' (length b) w)

  pub cell_is : slice_range b (i * w) (i * w + w) ≡ cell w b i
  cell_is = let e : i * w + w - i * w ≡ w = omega arith in ap (λ n. take n (drop (i * w) b)) e

  -- The bytes unpack to the value.
  pub value-cell : f (slice_range b (i * w) (i * w + w)) ≡ slice_get values i
  value-cell = rw are (ap f cell_is ∙ sym (get-values_of f w b i p within))

  -- If each value has one encoding, the value packs to these bytes.
  pub pack-cell : (pack : T → List ℕ) → IsCanonical pack f w
      → Some (slice_range b (i * w) (i * w + w)) ≡ option_map pack (slice_get values i)
  pack-cell pack one = rw are (ap Some cell_is ∙ sym (pack-get f w pack one b i p within))
