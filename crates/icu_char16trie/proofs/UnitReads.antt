-- A unit is the number of a chunk of two bytes.
use Rattle.std.proofs.Common.{◌≡◌, ℕ, zero, suc, ◌*◌, ◌/◌, ◌<◌, ◌≤◌, List, length, take, drop, slice_get, get_or, Some, None, w16, arith, sym, ◌∙◌, ap}
use Rattle.std.proofs.Math.Nat.{zero-mul, suc-mul}
use Rattle.std.proofs.lemmas.List.{drop-drop}
use Rattle.std.proofs.lemmas.Option.{slice_get_past}
use Rattle.std.specs.Simd.{first_chunks}
use Rattle.std.specs.Int.{from_le_bytes}
use Rattle.icu_zerovec.specs.Cells.{cell, values_of, IsPacked}
use Rattle.icu_zerovec.specs.PackedBytes.{number_of}
use Rattle.icu_zerovec.proofs.CallerLemmas.{get-values_of, length-values_of}

-- Chunk i is cell i.
get_or-chunks : (w n i : ℕ) (b d : List ℕ) → i < n → get_or (first_chunks w n b) i d ≡ cell w b i
get_or-chunks w zero i b d l = absurd (omega arith)
get_or-chunks w (suc n) zero b d l = ap (λ k. take w (drop k b)) (sym (zero-mul w))
get_or-chunks w (suc n) (suc i) b d l = get_or-chunks w n i (drop w b) d (omega arith)
    ∙ ap (take w) (drop-drop (i * w) w b ∙ ap (λ k. drop k b) (omega (arith, suc-mul i w)))

module _ (b : List ℕ) (p : IsPacked (λ c. Some (number_of 2 c)) 2 b) where
  abbrev units : List ℕ
  units = values_of (λ c. Some (number_of 2 c)) 2 b

  pub units-length : length units ≡ length b / 2
  units-length = length-values_of (λ c. Some (number_of 2 c)) 2 b p

  pub unit_past : (i : ℕ) → length b / 2 ≤ i → None ≡ slice_get units i
  unit_past i h = sym (slice_get_past units i (omega (arith, h, units-length)))

  pub unit_of : (i : ℕ) (chunk : List ℕ) → i < length b / 2 → chunk ≡ get_or (first_chunks 2 (length b / 2) b) i chunk
      → Some (from_le_bytes w16 chunk) ≡ slice_get units i
  unit_of i chunk l e = ap (λ c. Some (number_of 2 c)) (e ∙ get_or-chunks 2 (length b / 2) i b chunk l)
      ∙ sym (get-values_of (λ c. Some (number_of 2 c)) 2 b i p l)
