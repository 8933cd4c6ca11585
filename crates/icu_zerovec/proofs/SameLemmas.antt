-- Lists of values are equal if and only if their packed bytes are, and what a hasher is fed.
use Rattle.std.proofs.Common.{◌≡◌, ℕ, zero, suc, ◌+◌, ◌-◌, ◌*◌, ◌/◌, ◌%◌, ◌<◌, ◌≤◌, not, drop, ap₂, inl, inr, add-one, subst, List, [], ◌∷◌, ◌++◌, length, take, slice_get, Option, Some, Bool, true, false, true≢false, refl, arith, sym, ◌∙◌, ap, append_assoc}
use Rattle.std.specs.Prelude.{nat_eq, IsTrue, ◌↔◌}
use Rattle.std.specs.Bool.{MatchBool}
use Rattle.std.specs.Option.{is_some, unwrap_or}
use Rattle.std.specs.List.{flat_map, fold}
use Rattle.std.specs.Hash.{HashWrites, fed_then}
use Rattle.std.specs.Cmp.Lexicographic.{pointwise, bytes_decides, lists_equiv, nat_list_eq_equiv}
use Rattle.std.specs.Cmp.{on_equiv}
use Rattle.std.proofs.lemmas.Bool.{false_from_ne_true, and_right, not-false, cases_lt}
use Rattle.std.proofs.Math.Seq.{take-suc}
use Rattle.std.proofs.lemmas.Grind.{flat_map-append}
use Rattle.std.proofs.lemmas.List.{same_lists, append-nil}
use Rattle.std.proofs.lemmas.Option.{same_Some, unwrap_or-slice_get, slice_get_within, get_or_from_slice_get}
use Rattle.icu_zerovec.specs.Cells.{cell, values_of, IsPacked, same_bytes}
use Rattle.std.proofs.Math.Seq.{take-add}
use Rattle.std.proofs.lemmas.List.{drop-take, take-take}
use Rattle.std.proofs.lemmas.Nat.{div-add-mod', row_fits}
use Rattle.icu_zerovec.proofs.CellsLemmas.{take-pack, get-values_of, get_past-values_of, length-values_of}

-- ---- values that pack to the same bytes
module _ {T : Type 0} (f : List ℕ → Option T) (w : ℕ) (pack : T → List ℕ) (V : T → Type 0) (positive : 0 < w)
    (long : (x : T) → V x → length (pack x) ≡ w) (back : (x : T) → V x → f (pack x) ≡ Some x) where
  -- Values with the same bytes are equal.
  pub same_by_bytes : (x y : T) → V x → V y → pack x ≡ pack y → x ≡ y
  same_by_bytes x y p q e = same_Some _ _ (sym (back x p) ∙ ap f e ∙ back y q)

  -- The result of comparing the bytes, with the same bytes z after them.
  pub decided : (x y : T) (z : List ℕ) (r : Bool) → V x → V y → r ≡ pointwise nat_eq (pack x ++ z) (pack y ++ z)
      → MatchBool r (x ≡ y) (same_bytes pack x y ≡ false)
  decided x y z true p q e =
      same_by_bytes x y p q (sym (take-pack f w pack V positive long back x z p) ∙ ap (take w) ((bytes_decides _ _).0 (sym e))
      ∙ take-pack f w pack V positive long back y z q)
  decided x y z false p q e =
      false_from_ne_true _
      (λ t. true≢false (sym ((bytes_decides (pack x ++ z) (pack y ++ z)).1 (ap (λ b. b ++ z) ((bytes_decides (pack x) (pack y)).0 t)))
      ∙ sym e))

-- ---- lists
-- Lists that differ at one index are not equal.
pub differs : {T : Type 0} (E : T → T → Bool) (xs ys : List T) (i : ℕ) (x y : T) → slice_get xs i ≡ Some x → slice_get ys i ≡ Some y
    → E x y ≡ false
    → pointwise E xs ys ≡ false
differs E [] ys i x y a b e = absurd (true≢false (sym (ap is_some a)))
differs E (u ∷ xs) [] i x y a b e = refl
differs E (u ∷ xs) (v ∷ ys) zero x y a b e = rw (same_Some u x a, same_Some v y b, e) refl
differs E (u ∷ xs) (v ∷ ys) (suc i) x y a b e = and_right (E u v) _ (differs E xs ys i x y a b e)

-- Lists with the same elements are equal.
pub same_gets : {T : Type 0} (xs ys : List T) → length xs ≡ length ys → ((j : ℕ) → j < length xs → slice_get xs j ≡ slice_get ys j)
    → xs ≡ ys
same_gets xs ys e h = same_lists xs ys e (λ k d l. sym (unwrap_or-slice_get xs k d) ∙ ap (λ o. unwrap_or o d) (h k l)
    ∙ unwrap_or-slice_get ys k d)

-- What is fed after one more element.
pub fed_more : {S T : Type 0} (write : S → List ℕ → S) (F : T → HashWrites) (s t u : S) (us : HashWrites) (xs : List T) (i : ℕ) (x : T)
    → slice_get xs i ≡ Some x → t ≡ fold write s (us ++ flat_map F (take i xs)) → u ≡ fold write t (F x)
    → u ≡ fold write s (us ++ flat_map F (take (i + 1) xs))
fed_more write F s t u us xs i x a p q =
    let more : take (i + 1) xs ≡ take i xs ++ x ∷ [] = ap (λ k. take k xs) (add-one i) ∙ take-suc xs i x (slice_get_within xs i x a)
    ∙ ap (λ y. take i xs ++ y ∷ []) (get_or_from_slice_get xs i x x a) in
    let all : flat_map F (take (i + 1) xs) ≡ flat_map F (take i xs) ++ F x =
    ap (flat_map F) more ∙ flat_map-append F (take i xs) (x ∷ []) ∙ ap (λ l. flat_map F (take i xs) ++ l) (append-nil (F x)) in
    fed_then write s t u (us ++ flat_map F (take i xs)) (F x) p q
    ∙ ap (fold write s) (append_assoc us (flat_map F (take i xs)) (F x) ∙ ap (λ l. us ++ l) (sym all))

-- ---- the result of comparing two lists
module _ {T : Type 0} (pack : T → List ℕ) (xs ys : List T) where
  -- A list is equal to itself.
  itself : pointwise (same_bytes pack) xs xs ≡ true
  itself = (lists_equiv (on_equiv pack nat_list_eq_equiv)).refl xs

  -- Equal lists compare as equal.
  along : xs ≡ ys → pointwise (same_bytes pack) xs ys ≡ true
  along e = subst (λ l. pointwise (same_bytes pack) xs l ≡ true) e itself

  -- The result is that of the comparison value by value.
  pub told_value : (r : Bool) → MatchBool r (xs ≡ ys) (pointwise (same_bytes pack) xs ys ≡ false) → r ≡ pointwise (same_bytes pack) xs ys
  told_value true m = sym (along m)
  told_value false m = sym m

  -- The result is true if and only if the lists are equal.
  pub told_same : (r : Bool) → MatchBool r (xs ≡ ys) (pointwise (same_bytes pack) xs ys ≡ false) → IsTrue r ↔ (xs ≡ ys)
  told_same true m = (λ _. m, λ _. refl)
  told_same false m = (λ t. absurd (true≢false (sym t)), λ e. absurd (true≢false (sym (along e) ∙ m)))

-- ---- blocks of equal bytes
-- The bytes so far are equal, and so are the next n.
pub block_more : (at n m : ℕ) (a b : List ℕ) → m ≡ n → false ≡ not (pointwise nat_eq (take m (drop at a)) (take m (drop at b)))
    → take at a ≡ take at b
    → take (at + n) a ≡ take (at + n) b
block_more at n m a b e h p =
    let q : take n (drop at a) ≡ take n (drop at b) =
    subst (λ k. take k (drop at a) ≡ take k (drop at b)) e ((bytes_decides _ _).0 (not-false _ (sym h))) in
    take-add at n a ∙ ap₂ ◌++◌ p q ∙ sym (take-add at n b)

-- A cell within the first p bytes.
cell_of_front : (w p j : ℕ) (b : List ℕ) → j * w + w ≤ p → cell w (take p b) j ≡ cell w b j
cell_of_front w p j b l =
    let e : p ≡ j * w + (p - j * w) = omega arith in
    ap (λ q. take w (drop (j * w) (take q b))) e ∙ ap (take w) (drop-take (j * w) (p - j * w) b)
    ∙ take-take w (p - j * w) (drop (j * w) b) (omega arith)

-- Packed bytes with the same number of cells have the same length.
same_length : (w : ℕ) (a b : List ℕ) → length a % w ≡ 0 → length b % w ≡ 0 → length a / w ≡ length b / w → length a ≡ length b
same_length w a b p q e = omega (arith, div-add-mod' (length a) w, div-add-mod' (length b) w, p, q, ap (λ k. k * w) e)

module _ {T : Type 0} (f : List ℕ → Option T) (w : ℕ) (a b : List ℕ) (p : IsPacked f w a) (q : IsPacked f w b) where
  -- The same number of values has the same number of bytes.
  pub same_count : length (values_of f w a) ≡ length (values_of f w b) → length a ≡ length b
  same_count e = same_length w a b p.whole q.whole (sym (length-values_of f w a p) ∙ e ∙ length-values_of f w b q)

  -- Values within the first n bytes, if these are equal.
  pub same_front : (n : ℕ) → length a ≡ length b → take n a ≡ take n b → (j : ℕ) → j < n / w
      → slice_get (values_of f w a) j ≡ slice_get (values_of f w b) j
  same_front n e h j l = elim (cases_lt j (length a / w)) [
    | inl k ↦ get-values_of f w a j p k ∙ ap f (sym (cell_of_front w n j a fits) ∙ ap (λ c. cell w c j) h ∙ cell_of_front w n j b fits)
        ∙ sym (get-values_of f w b j q (omega (arith, k, counts)))
    | inr k ↦ get_past-values_of f w a j p k ∙ sym (get_past-values_of f w b j q (omega (arith, k, counts)))
  ]
    where
      counts : length a / w ≡ length b / w
      counts = ap (λ k. k / w) e

      fits : j * w + w ≤ n
      fits = omega (arith, row_fits j w (n / w) w l (omega arith), div-add-mod' n w)
