-- One boundary inserted or removed.
use Rattle.std.proofs.Common.{◌≡◌, ℕ, ◌+◌, ◌%◌, ◌<◌, ◌≤◌, List, [], ◌∷◌, length, refl, ap, sym, ◌∙◌, arith, suc, add-one, Bool, true, not, inl, inr, Result, Ok, Err, Decides}
use Rattle.std.proofs.lemmas.List.Sorted.{searched}
use Rattle.std.specs.List.Sorted.{IsBinarySearchResult}
use Rattle.std.specs.Ordering.{nat_cmp}
use Rattle.std.specs.Result.{MatchResult, is_err}
use Rattle.std.proofs.Math.Bool.{not-not}
use Rattle.std.proofs.lemmas.Bool.{false≢true, cases_lt, cases_eq, eq-eqb, ne_eqb, eqb-true, le-leb, lt-leb}
use Rattle.std.specs.List.{splice, insert, remove}
use Rattle.std.specs.Prelude.{nat_le}
use Rattle.icu_zerovec.specs.CodePoints.{code_point_limit}
use Rattle.icu_invlist.specs.InversionList.{holds, is_odd, IsValid, one_of}
use Rattle.icu_invlist.specs.Inside.Places.{Run, ends_below}
use Rattle.icu_invlist.proofs.RunLemmas.{ends_below-mono, ends_below-step, ends_below-more, below_is, run-rises}
use Rattle.icu_invlist.proofs.Splices.{spliced-run, spliced-before, spliced-past}
use Rattle.icu_invlist.proofs.Parity.{holds-ends_below}
use Rattle.icu_invlist.proofs.ValidLists.{valid_from_run, rises}

pub odd_next : (n : ℕ) → is_odd (n + 1) ≡ not (is_odd n)
odd_next n = elim (cases_eq (n % 2) 1) [
  | inl h ↦ rw (eq-eqb _ _ h) (ne_eqb _ _ (λ k. omega arith))
  | inr h ↦ rw (ne_eqb _ _ h) (eq-eqb _ _ (omega arith))
]

pub odd_before : (n : ℕ) → is_odd n ≡ not (is_odd (n + 1))
odd_before n = rw odd_next (sym (not-not (is_odd n)))

abbrev pub Toggled : List ℕ → ℕ → List ℕ → Type 0
Toggled xs x ys = Run 0 (suc code_point_limit) ys × ((c : ℕ) → holds ys c ≡ one_of (nat_le x c) (holds xs c))

pub put_in : (xs ys : List ℕ) (x i j : ℕ) → Run 0 (suc code_point_limit) xs → x ≤ code_point_limit → i ≡ ends_below xs x
    → j ≡ ends_below xs (x + 1) → i ≡ j → ys ≡ insert xs i x → Toggled xs x ys
put_in xs ys x i j up w a b e y =
    let q : ys ≡ splice xs (ends_below xs x) (ends_below xs (suc x)) (x ∷ []) =
    y ∙ (let k : ends_below xs (suc x) ≡ i = (rw (← add-one) (sym b ∙ sym e)) in rw (k, ← a) refl) in
    rw q (
      spliced-run xs x x (suc code_point_limit) (x ∷ []) up (omega arith) (omega arith) (omega arith, omega arith, tt),
      λ c. elim (cases_lt c x) [
        | inl h ↦ rw (lt-leb x c h, holds-ends_below, holds-ends_below xs c)
            (ap is_odd (spliced-before xs x x (suc code_point_limit) (x ∷ []) up (omega arith) (omega arith)
            (omega arith, omega arith, tt) c h))
        | inr h ↦ rw (le-leb x c h, holds-ends_below, holds-ends_below xs c)
            (let t = spliced-past xs x x (suc code_point_limit) (x ∷ []) up (omega arith) (omega arith)
            (omega arith, omega arith, tt) c h in
            let u : ends_below (splice xs (ends_below xs x) (ends_below xs (suc x)) (x ∷ [])) (suc c) ≡ ends_below xs (suc c) + 1 =
            (let k : ends_below xs (suc x) ≡ ends_below xs x = (rw (← add-one) (sym b ∙ (sym e ∙ a))) in omega arith) in
            ap is_odd u ∙ odd_next (ends_below xs (suc c)))
      ],
    )

pub take_out : (xs ys : List ℕ) (x i j : ℕ) → Run 0 (suc code_point_limit) xs → x ≤ code_point_limit → i ≡ ends_below xs x
    → j ≡ ends_below xs (x + 1) → (i ≡ j → ⊥) → ys ≡ remove xs i → Toggled xs x ys
take_out xs ys x i j up w a b n y =
    let m = ends_below-mono xs x (suc x) (omega arith) in
    let s = ends_below-step 0 (suc code_point_limit) x xs up in
    let k : ends_below xs (suc x) ≡ suc i = (let b2 : j ≡ ends_below xs (suc x) = (b ∙ rw (add-one) refl) in omega arith) in
    let q : ys ≡ splice xs (ends_below xs x) (ends_below xs (suc x)) [] = y ∙ rw (k, ← a) refl in
    rw q (
      spliced-run xs x x (suc code_point_limit) [] up (omega arith) (omega arith) tt,
      λ c. elim (cases_lt c x) [
        | inl h ↦ rw (lt-leb x c h, holds-ends_below, holds-ends_below xs c)
            (ap is_odd (spliced-before xs x x (suc code_point_limit) [] up (omega arith) (omega arith) tt c h))
        | inr h ↦ rw (le-leb x c h, holds-ends_below, holds-ends_below xs c)
            (let t = spliced-past xs x x (suc code_point_limit) [] up (omega arith) (omega arith) tt c h in
            let u : ends_below (splice xs (ends_below xs x) (ends_below xs (suc x)) []) (suc c) + 1 ≡ ends_below xs (suc c) = omega arith in
            odd_before (ends_below (splice xs (ends_below xs x) (ends_below xs (suc x)) []) (suc c)) ∙ ap (λ (z : ℕ). not (is_odd z)) u)
      ],
    )

-- What a binary search for x returns: its index if x is a boundary, and an error if it is not.
abbrev pub EndFound : List ℕ → ℕ → Result ℕ ℕ → Type 0
EndFound xs x r = MatchResult r (λ i. (i ≡ ends_below xs x) × (i < length xs) × (ends_below xs x ≡ ends_below xs (x + 1) → ⊥))
    (λ i. (i ≡ ends_below xs x) × (ends_below xs x ≡ ends_below xs (x + 1)))

pub end_found : (xs : List ℕ) (x : ℕ) (r : Result ℕ ℕ) → Run 0 (suc code_point_limit) xs → IsBinarySearchResult (λ y. nat_cmp y x) xs r
    → EndFound xs x r
end_found xs x (Ok i) up s =
    let p = searched xs x (Ok i) s (λ a b. run-rises 0 (suc code_point_limit) xs up a b 0) in
    let e : i ≡ ends_below xs x = below_is xs i x (omega (arith, p.0))
    (λ k h. let q = run-rises 0 (suc code_point_limit) xs up (k + 1) i 0 (omega arith) p.0 in
    let u = rises 0 (suc code_point_limit) xs up k (omega (arith, p.0)) in omega (arith, p.1))
    (λ k h l. let q = run-rises 0 (suc code_point_limit) xs up i k 0 h l in omega (arith, p.1)) in
    let m : i < ends_below xs (x + 1) = ends_below-more 0 (suc code_point_limit) (x + 1) xs up i (omega (arith, p.1)) p.0 in
    (e, p.0, λ k. absurd (omega arith))
end_found xs x (Err i) up s =
    let p = searched xs x (Err i) s (λ a b. run-rises 0 (suc code_point_limit) xs up a b 0) in
    let e : i ≡ ends_below xs x = below_is xs i x p.0 (λ k h. let q = p.1 k h in omega arith) (λ k h l. let q = p.2 k h l in omega arith) in
    let f : i ≡ ends_below xs (x + 1) = below_is xs i (x + 1) p.0 (λ k h. let q = p.1 k h in omega arith)
    (λ k h l. let q = p.2 k h l in omega arith) in
    (e, sym e ∙ f)

pub new_found : (xs : List ℕ) (x : ℕ) (r : Result ℕ ℕ) (t : Bool) → EndFound xs x r → t ≡ is_err r
    → Decides t (ends_below xs x ≡ ends_below xs (x + 1))
new_found xs x (Ok i) t f e = (λ y. absurd (false≢true (sym e ∙ y)), λ k. absurd (f.2 k))
new_found xs x (Err i) t f e = (λ y. f.1, λ k. e)

pub flipped : (xs ys : List ℕ) → IsValid xs → Run 0 (suc code_point_limit) ys → is_odd (length ys) ≡ is_odd (length xs) → IsValid ys
flipped xs ys v r e = valid_from_run ys r (elim (cases_eq (length ys % 2) 1) [
  | inl h ↦ let k : is_odd (length xs) ≡ true = sym e ∙ eq-eqb _ _ h in let q = eqb-true _ _ k in let w = v.even in absurd (omega arith)
  | inr h ↦ omega arith
])

pub flipped_twice : (xs zs ws ys : List ℕ) → IsValid xs → zs ≡ xs → is_odd (length ws) ≡ not (is_odd (length zs))
    → Run 0 (suc code_point_limit) ys → is_odd (length ys) ≡ not (is_odd (length ws)) → IsValid ys
flipped_twice xs zs ws ys v z a r b = flipped xs ys v r
    (b ∙ (ap not a ∙ (not-not (is_odd (length zs)) ∙ ap (λ (us : List ℕ). is_odd (length us)) z)))
