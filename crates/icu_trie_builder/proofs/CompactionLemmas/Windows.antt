-- Windows of lists, and what `==` says about them.
use Rattle.std.proofs.Common.{◌≡◌, ℕ, ◌+◌, ◌-◌, ◌*◌, ◌<◌, ◌≤◌, Bool, nat_eq, List, ◌++◌, length, get_or, take, drop, arith, ◌∙◌, ap, sym, refl}
use Rattle.std.specs.Bool.{Decides}
use Rattle.std.specs.Cmp.{IsEquivalence}
use Rattle.std.specs.Cmp.Lexicographic.{pointwise}
use Rattle.std.proofs.lemmas.Bool.Decides.{nat_tests}
use Rattle.std.proofs.lemmas.Cmp.{lists_equiv}
use Rattle.std.proofs.lemmas.Slice.Eq.{slice_eq-Decides}
use Rattle.std.proofs.lemmas.List.{drop-append-le, take-append-le, take_all, length-take, length-drop, get_or-take, get_or-drop, drop-take, take-take, drop-drop}
use Rattle.icu_trie_core.specs.Blocks.{window}

-- `==` of numbers is an equivalence.
nat_laws : IsEquivalence nat_eq
nat_laws = record {
  refl = λ x. grind (arith, nat_tests);
  symm = λ x y. grind (arith, nat_tests);
  congr =
      λ x y z e. grind (arith, nat_tests, e);
}

-- `==` of numbers decides whether they are the same.
nat_decides : (a b : ℕ) → Decides (nat_eq a b) (a ≡ b)
nat_decides a b = (λ e. grind (arith, nat_tests, e), λ e. grind (arith, nat_tests, e))

-- `==` of lists of numbers is an equivalence.
pub list_laws : IsEquivalence (pointwise nat_eq)
list_laws = lists_equiv nat_laws

-- `==` of lists of numbers decides whether they are the same.
pub list_decides : (xs ys : List ℕ) → Decides (pointwise nat_eq xs ys) (xs ≡ ys)
list_decides xs ys = slice_eq-Decides nat_decides xs ys (pointwise nat_eq xs ys) refl

-- What `==` says about a part of a slice.
pub part-decides : (xs wanted : List ℕ) (at end k : ℕ) (r : Bool) → r ≡ pointwise nat_eq (take (end - at) (drop at xs)) wanted
    → end ≡ at + k
    → Decides r (window k at xs ≡ wanted)
part-decides xs wanted at end k r e h =
    let n : end - at ≡ k = omega (arith, h) in
    slice_eq-Decides nat_decides (window k at xs) wanted r (e ∙ ap (λ m. pointwise nat_eq (take m (drop at xs)) wanted) n)

-- A window within the list has its full length.
pub length-window : (k at : ℕ) (xs : List ℕ) → at + k ≤ length xs → length (window k at xs) ≡ k
length-window k at xs h = omega (arith, length-take k (drop at xs), length-drop at xs, h)

-- An element of a window.
pub window-read : (k at i : ℕ) (xs : List ℕ) (d : ℕ) → i < k → get_or (window k at xs) i d ≡ get_or xs (at + i) d
window-read k at i xs d l = get_or-take k (drop at xs) i d l ∙ get_or-drop at xs i d

-- Appending elements does not change a window.
pub window-append : (k at : ℕ) (xs ys : List ℕ) → at + k ≤ length xs → window k at (xs ++ ys) ≡ window k at xs
window-append k at xs ys h =
    let a : at ≤ length xs = omega arith in
    let b : k ≤ length (drop at xs) = omega (arith, length-drop at xs) in
    rw drop-append-le (take-append-le k (drop at xs) ys b)

-- A block ends before the next one starts.
pub times-below : (k p n : ℕ) → p < n → k * p + k ≤ k * n
times-below k p n h = grind arith

-- What `==` says about a tail of a slice.
pub tail-decides : (xs ys : List ℕ) (at : ℕ) (r : Bool) → r ≡ pointwise nat_eq (take (length xs - at) (drop at xs)) ys
    → Decides r (drop at xs ≡ ys)
tail-decides xs ys at r e =
    let all : take (length xs - at) (drop at xs) ≡ drop at xs = take_all (length xs - at) (drop at xs) (omega (arith, length-drop at xs)) in
    slice_eq-Decides nat_decides (drop at xs) ys r (e ∙ ap (λ x. pointwise nat_eq x ys) all)

-- A window of a window.
pub window-window : (k i m at : ℕ) (xs : List ℕ) → i + k ≤ m → window k i (window m at xs) ≡ window k (at + i) xs
window-window k i m at xs h =
    let is : i + (m - i) ≡ m = omega (arith, h) in
    ap (λ n. take k (drop i (take n (drop at xs)))) (sym is)
    ∙ (ap (λ ys. take k ys) (drop-take i (m - i) (drop at xs))
    ∙ (take-take k (m - i) (drop i (drop at xs)) (omega (arith, h)) ∙ ap (λ ys. take k ys) (drop-drop i at xs)))
