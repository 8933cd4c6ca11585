-- The packed bytes of the boundaries of a set.
use Rattle.std.proofs.Common.{◌≡◌, ℕ, ◌+◌, ◌*◌, ◌/◌, ◌^◌, ◌<◌, ◌≤◌, List, [], ◌∷◌, ◌++◌, length, take, drop, get_or, slice_get, Some, refl, ap, sym, ◌∙◌, arith, append_assoc, zero, suc, lit<}
use Rattle.std.specs.List.{flat_map, AllByRecursion}
use Rattle.std.proofs.lemmas.List.{drop-drop, drop-take, length-drop, length-take-le, take-take}
use Rattle.std.proofs.lemmas.Option.{get_or_from_slice_get}
use Rattle.std.proofs.lemmas.List.Elements.{recursion_from_All}
use Rattle.icu_zerovec.specs.Cells.{IsPacked, IsFault, cell, values_from, values_of}
use Rattle.icu_zerovec.specs.PackedBytes.{low_bytes, number_of}
use Rattle.icu_zerovec.specs.PackedLaws.{number_of-3, low_bytes-small}
use Rattle.icu_zerovec.specs.declared.ule.UleError.{UleError}
use Rattle.icu_zerovec.specs.declared.ule.UleError.TheVariants.{Length, Cell}
use Rattle.icu_zerovec.proofs.CallerLemmas.{IsPacked-flat_map, get-values_of, length-values_of, values_of-flat_map}
use Rattle.icu_invlist.specs.InversionList.{IsValid, ranges_of}
use Rattle.icu_invlist.specs.Inside.StillGiven.{ends_in, ArePackedEnds}
use Rattle.icu_invlist.proofs.MemberLemmas.{length-ranges, rest_valid}
use Rattle.icu_invlist.proofs.ValidLists.{run_from_valid}

small_ends : (xs : List ℕ) → IsValid xs → AllByRecursion (λ x. x < 2 ^ 24) xs
small_ends xs v = recursion_from_All (λ x. x < 2 ^ 24) xs (λ k d h. let a = v.within k d h in omega arith)

pub packed_ends : (xs : List ℕ) → IsValid xs → IsPacked (λ b. Some (number_of 3 b)) 3 (flat_map (low_bytes 3) xs)
packed_ends xs v = IsPacked-flat_map (λ b. Some (number_of 3 b)) 3 (low_bytes 3) (λ x. x < 2 ^ 24) (lit< tt) (λ x h. refl)
    (λ x h. ap Some (number_of-3 x h))
    xs (small_ends xs v) (λ x h. low_bytes-small 3 x)

-- The bytes unpack to the boundaries.
pub values_packed : (xs : List ℕ) → IsValid xs → values_of (λ b. Some (number_of 3 b)) 3 (flat_map (low_bytes 3) xs) ≡ xs
values_packed xs v = values_of-flat_map (λ b. Some (number_of 3 b)) 3 (low_bytes 3) (λ x. x < 2 ^ 24) (lit< tt) (λ x h. refl)
    (λ x h. ap Some (number_of-3 x h))
    xs (small_ends xs v)

-- The bytes are valid.
pub no_fault : (xs : List ℕ) → IsValid xs → (e : UleError) → IsFault (λ b. Some (number_of 3 b)) 3 (flat_map (low_bytes 3) xs) e → ⊥
no_fault xs v Length h = h ((packed_ends xs v).whole)
no_fault xs v (Cell i) h = let k = h.2 in cc

drop_place : (xs : List ℕ) (i x : ℕ) → slice_get xs i ≡ Some x → drop i xs ≡ x ∷ drop (i + 1) xs
drop_place [] i x e = cc
drop_place (y ∷ ys) zero x e = let k : y ≡ x = cc in rw k refl
drop_place (y ∷ ys) (suc i) x e = let k : suc i + 1 ≡ suc (i + 1) = omega arith in rw k (drop_place ys i x e)

-- One more boundary is unpacked.
pub unpacked_more : (xs front whole : List ℕ) (i x : ℕ) → slice_get xs i ≡ Some x → front ++ drop i xs ≡ whole
    → (front ++ x ∷ []) ++ drop (i + 1) xs ≡ whole
unpacked_more xs front whole i x e w = append_assoc front (x ∷ []) (drop (i + 1) xs)
    ∙ (ap (λ (ys : List ℕ). front ++ ys) (sym (drop_place xs i x e)) ∙ w)

-- ---- four bytes at once
take_past : (xs ys : List ℕ) (n : ℕ) → take (length xs + n) (xs ++ ys) ≡ xs ++ take n ys
take_past [] ys n = let k : length {A = ℕ} [] + n ≡ n = omega arith in rw k refl
take_past (x ∷ xs) ys n = let k : length (x ∷ xs) + n ≡ suc (length xs + n) = omega arith in
    rw k (ap (λ (zs : List ℕ). x ∷ zs) (take_past xs ys n))

-- Of the four bytes that a boundary is written with, the last is overwritten.
pub three_of_four : (old new front : List ℕ) (at x : ℕ) → at + 4 ≤ length old → take at old ≡ front
    → take (at + 4) new ≡ take at old ++ low_bytes 4 x → take (at + 3) new ≡ front ++ low_bytes 3 x
three_of_four old new front at x h f w =
    let l : length front ≡ at = ap length (sym f) ∙ length-take-le at old (omega arith) in
    sym (take-take (at + 3) (at + 4) new (omega arith))
    ∙ (ap (take (at + 3)) (w ∙ ap (λ (zs : List ℕ). zs ++ low_bytes 4 x) f)
    ∙ (ap (λ n. take (n + 3) (front ++ low_bytes 4 x)) (sym l) ∙ take_past front (low_bytes 4 x) 3))

-- A boundary is the number of its cell.
pub end_in_cell : (b xs : List ℕ) (i : ℕ) → IsPacked (λ c. Some (number_of 3 c)) 3 b → xs ≡ values_of (λ c. Some (number_of 3 c)) 3 b
    → i < length xs → (i * 3 + 3 ≤ length b) × (get_or xs i 0 ≡ number_of 3 (cell 3 b i))
end_in_cell b xs i p e l =
    let n : length xs ≡ length b / 3 = ap length e ∙ length-values_of (λ c. Some (number_of 3 c)) 3 b p in (
      omega arith,
      get_or_from_slice_get xs i _ 0 (ap (λ ys. slice_get ys i) e
          ∙ get-values_of (λ c. Some (number_of 3 c)) 3 b i p (omega arith)),
    )

-- ---- the boundaries of a range at a time
length-ends_from : (b : List ℕ) (n : ℕ) → length (values_from (λ c. Some (number_of 3 c)) 3 b n) ≡ n
length-ends_from b zero = refl
length-ends_from b (suc n) = ap suc (length-ends_from (drop 3 b) n)

-- There is a boundary for each three bytes.
pub length-ends_in : (b : List ℕ) → length (ends_in b) ≡ length b / 3
unfolding values_of
length-ends_in b = length-ends_from b (length b / 3)

-- Empty bytes have no boundaries.
pub no_ends : (b : List ℕ) → length b ≡ 0 → ends_in b ≡ []
unfolding values_of
no_ends b e = ap (λ n. values_from (λ c. Some (number_of 3 c)) 3 b (n / 3)) e

-- Reading three bytes returns their number.
pub same_end : (c : List ℕ) (x : ℕ) → Some (number_of 3 c) ≡ Some x → x ≡ number_of 3 c
same_end c x e = cc

-- The packed bytes of a valid list are six for each range.
pub packed_ranges : (b xs : List ℕ) → IsPacked (λ c. Some (number_of 3 c)) 3 b → xs ≡ values_of (λ c. Some (number_of 3 c)) 3 b
    → IsValid xs → ArePackedEnds b
packed_ranges b xs p e v = record {
  whole =
      let n = length-ends_in b in
      let l : length xs ≡ length (ends_in b) = ap length e in
      let two = v.even in
      let three = p.whole in
      omega arith;
  valid = rw e at v;
}

-- The first six bytes are the boundaries of the first range.
pub first_range : (b r : List ℕ) → 6 ≤ length b → r ≡ take 6 b
    → ends_in b ≡ number_of 3 (take 3 r) ∷ number_of 3 (take 3 (drop 3 r)) ∷ ends_in (drop 6 b)
unfolding values_of
first_range b r h f =
    let k : length b / 3 ≡ suc (suc (length (drop 6 b) / 3)) = omega (arith, length-drop 6 b) in
    let x : take 3 b ≡ take 3 r = sym (ap (take 3) f ∙ take-take 3 6 b (omega arith)) in
    let y : take 3 (drop 3 b) ≡ take 3 (drop 3 r) =
    sym (ap (λ c. take 3 (drop 3 c)) f ∙ (ap (take 3) (drop-take 3 3 b) ∙ take-take 3 3 (drop 3 b) (omega arith))) in
    let count = length (drop 6 b) / 3 in
    ap (values_from (λ c. Some (number_of 3 c)) 3 b) k
    ∙ (ap (λ c. number_of 3 c ∷ number_of 3 (take 3 (drop 3 b))
    ∷ values_from (λ c. Some (number_of 3 c)) 3 (drop 3 (drop 3 b)) count) x
    ∙ (ap (λ c. number_of 3 (take 3 r) ∷ number_of 3 c
    ∷ values_from (λ c. Some (number_of 3 c)) 3 (drop 3 (drop 3 b)) count) y
    ∙ ap (λ c. number_of 3 (take 3 r) ∷ number_of 3 (take 3 (drop 3 r))
    ∷ values_from (λ c. Some (number_of 3 c)) 3 c count) (drop-drop 3 3 b)))

module _ (b r : List ℕ) (v : ArePackedEnds b) (h : 6 ≤ length b) (f : r ≡ take 6 b) where
  range_valid : IsValid (number_of 3 (take 3 r) ∷ number_of 3 (take 3 (drop 3 r)) ∷ ends_in (drop 6 b))
  range_valid = rw (first_range b r h f) at v.valid

  -- The bytes after them are those of the other ranges.
  pub rest_packed : ArePackedEnds (drop 6 b)
  rest_packed = record {
    whole = let w = v.whole in omega (arith, length-drop 6 b);
    valid = rest_valid _ _ _ range_valid;
  }

  -- The range's end is not 0.
  pub some_end : 1 ≤ number_of 3 (take 3 (drop 3 r))
  some_end = let s = run_from_valid _ range_valid in omega (arith, s.2.0)

-- There is a range for each six bytes.
pub count_ranges : (b : List ℕ) → length b / 6 ≡ length (ranges_of (ends_in b))
count_ranges b = let n = length-ends_in b in let r = length-ranges (ends_in b) in omega arith
