-- The steps of a span over a set of code points and strings, one after another.
use Rattle.std.proofs.Common.{◌≡◌, ◌∙◌, refl, sym, ap, subst, ℕ, ◌+◌, ◌<◌, ◌≤◌, Bool, true, false, inl, inr, List, [], ◌∷◌, length, drop, length-append, arith, encode_utf8}
use Rattle.std.specs.Prelude.{sum}
use Rattle.std.proofs.lemmas.List.{drop-drop}
use Rattle.std.proofs.lemmas.List.Sums.{sum_by-cons}
use Rattle.std.proofs.lemmas.Str.{length-encode}
use Rattle.icu_collections_c.specs.TextSpans.{AreSteps, IsFirstSize, IsSpanBy, IsStep}

first_within : (bytes : List ℕ) (k : ℕ) → IsFirstSize bytes k → k ≤ length bytes
first_within bytes k (inl p) =
    omega (
      arith,
      ap (λ (bs : List ℕ). length bs) p.1.2,
      length-append (encode_utf8 p.0) (drop k bytes),
      length-encode p.0,
      p.1.1,
    )
first_within bytes k (inr none) = omega (arith, none.1)

-- A step is within the bytes.
pub step_within : (IsIn : List ℕ → Bool → Type 0) (held : Bool) (bytes : List ℕ) (k : ℕ) → IsStep IsIn held bytes k → k ≤ length bytes
step_within IsIn true bytes k s = s.within
step_within IsIn false bytes k (inl s) = first_within bytes k s.1
step_within IsIn false bytes k (inr s) = omega (arith, s.3)

module _ (Step : List ℕ → ℕ → Type 0) (bytes : List ℕ) where
  -- The next step has `size` bytes, and the steps from `end` on complete a span of all bytes.
  abbrev pub IsPassed : ℕ → ℕ → Type 0
  IsPassed end size =
      Step (drop end bytes) size × ((n : ℕ) → IsSpanBy Step (drop end bytes) n → IsSpanBy Step bytes (end + n))

  pub passed_first : (size : ℕ) → Step bytes size → IsPassed 0 size
  passed_first size s = (s, λ n h. subst (IsSpanBy Step bytes) (same n) h)
    where
      same : (n : ℕ) → n ≡ 0 + n
      same n = omega arith

  pub passed_next : (end size next : ℕ) → IsPassed end size → 0 < size → Step (drop (end + size) bytes) next → IsPassed (end + size) next
  passed_next end size next was some s = (s, more)
    where
      same : drop size (drop end bytes) ≡ drop (end + size) bytes
      same = drop-drop size end bytes

      more : (n : ℕ) → IsSpanBy Step (drop (end + size) bytes) n → IsSpanBy Step bytes ((end + size) + n)
      more n h =
          let steps : AreSteps Step (drop size (drop end bytes)) h.0 = subst (λ (bs : List ℕ). AreSteps Step bs h.0) (sym same) h.1 in
          let count : size + n ≡ sum (size ∷ h.0) = omega (arith, h.2, sum_by-cons (λ k. k) size h.0) in
          let all : end + (size + n) ≡ (end + size) + n = omega arith in
          subst (IsSpanBy Step bytes) all (was.1 (size + n) (size ∷ h.0, (some, was.0, steps), count))

  pub passed_last : (end size : ℕ) → IsPassed end size → size ≡ 0 → IsSpanBy Step bytes end
  passed_last end size was none =
      let last : IsSpanBy Step (drop end bytes) 0 = ([], subst (Step (drop end bytes)) none was.0, refl) in
      let all : end + 0 ≡ end = omega arith in
      subst (IsSpanBy Step bytes) all (was.1 0 last)
