-- Lists that are strictly ascending from lo to before hi, and how many of their numbers are below
-- c.
use Rattle.std.proofs.Common.{◌≡◌, ℕ, ◌+◌, ◌<◌, ◌≤◌, List, [], ◌∷◌, ◌++◌, length, get_or, take, drop, refl, ap, arith, zero, suc, cond, inl, inr}
use Rattle.std.proofs.lemmas.Bool.{cases_lt, cond-true, cond-false, lt-ltb, le-ltb, le-leb, lt-leb}
use Rattle.std.proofs.lemmas.List.Sums.{sum_by-cons}
use Rattle.std.specs.Prelude.{nat_lt, nat_le}
use Rattle.std.specs.List.{count_by}
use Rattle.icu_invlist.specs.InversionList.{ends_up_to}
use Rattle.icu_invlist.specs.Inside.Places.{Run, ends_below}

pub ends_below-yes : (x c : ℕ) (xs : List ℕ) → x < c → ends_below (x ∷ xs) c ≡ suc (ends_below xs c)
ends_below-yes x c xs h = cond-true _ _ _ (lt-ltb x c h)

pub ends_below-no : (x c : ℕ) (xs : List ℕ) → c ≤ x → ends_below (x ∷ xs) c ≡ ends_below xs c
ends_below-no x c xs h = cond-false _ _ _ (le-ltb x c h)

-- The number of boundaries that are at most c.
count_cons : (x c n : ℕ) (xs : List ℕ) → count_by (λ e. nat_le e c) xs ≡ n
    → count_by (λ e. nat_le e c) (x ∷ xs) ≡ cond (nat_lt x (suc c)) (suc n) n
count_cons x c n xs e = elim (cases_lt c x) [
  | inl h ↦ rw (sum_by-cons (λ y. cond (nat_le y c) 1 0) x xs, e, lt-leb x c h, le-ltb x (suc c) (omega arith)) (omega arith)
  | inr h ↦ rw (sum_by-cons (λ y. cond (nat_le y c) 1 0) x xs, e, le-leb x c h, lt-ltb x (suc c) (omega arith)) (omega arith)
]

pub up_to-ends_below : (xs : List ℕ) (c : ℕ) → ends_up_to xs c ≡ ends_below xs (suc c)
unfolding ends_up_to
up_to-ends_below [] c = refl
up_to-ends_below (x ∷ xs) c = count_cons x c _ xs (up_to-ends_below xs c)

pub ends_below-append : (xs ys : List ℕ) (c : ℕ) → ends_below (xs ++ ys) c ≡ ends_below xs c + ends_below ys c
ends_below-append [] ys c = omega arith
ends_below-append (x ∷ xs) ys c = elim (cases_lt x c) [
  | inl h ↦ rw (ends_below-yes x c (xs ++ ys) h, ends_below-yes x c xs h, ends_below-append xs ys c) (omega arith)
  | inr h ↦ rw (ends_below-no x c (xs ++ ys) h, ends_below-no x c xs h, ends_below-append xs ys c) refl
]

pub ends_below-before : (lo hi : ℕ) (xs : List ℕ) (c : ℕ) → Run lo hi xs → c ≤ lo → ends_below xs c ≡ 0
ends_below-before lo hi [] c r h = refl
ends_below-before lo hi (x ∷ xs) c r h = rw (ends_below-no x c xs (omega (arith, r.0)))
    (ends_below-before (suc x) hi xs c r.2 (omega (arith, r.0)))

pub ends_below-past : (lo hi : ℕ) (xs : List ℕ) (c : ℕ) → Run lo hi xs → hi ≤ c → ends_below xs c ≡ length xs
ends_below-past lo hi [] c r h = refl
ends_below-past lo hi (x ∷ xs) c r h = rw (ends_below-yes x c xs (omega (arith, r.1))) (ap suc (ends_below-past (suc x) hi xs c r.2 h))

pub ends_below-le : (xs : List ℕ) (c : ℕ) → ends_below xs c ≤ length xs
ends_below-le [] c = omega arith
ends_below-le (x ∷ xs) c = elim (cases_lt x c) [
  | inl h ↦ rw (ends_below-yes x c xs h) (let k = ends_below-le xs c in omega arith)
  | inr h ↦ rw (ends_below-no x c xs h) (let k = ends_below-le xs c in omega arith)
]

pub run-wider : (lo hi low high : ℕ) (xs : List ℕ) → low ≤ lo → hi ≤ high → Run lo hi xs → Run low high xs
run-wider lo hi low high [] a b r = tt
run-wider lo hi low high (x ∷ xs) a b r = (omega (arith, r.0), omega (arith, r.1), run-wider (suc x) hi (suc x) high xs (omega arith) b r.2)

pub run-append : (lo mid hi : ℕ) (xs ys : List ℕ) → lo ≤ mid → mid ≤ hi → Run lo mid xs → Run mid hi ys → Run lo hi (xs ++ ys)
run-append lo mid hi [] ys a b r s = run-wider mid hi lo hi ys a (omega arith) s
run-append lo mid hi (x ∷ xs) ys a b r s = (r.0, omega (arith, r.1), run-append (suc x) mid hi xs ys (omega (arith, r.1)) b r.2 s)

-- The numbers before index `below xs c` are below c, and the others are not.
pub run-front : (lo hi c : ℕ) (xs : List ℕ) → Run lo hi xs → Run lo c (take (ends_below xs c) xs)
run-front lo hi c [] r = tt
run-front lo hi c (x ∷ xs) r = elim (cases_lt x c) [
  | inl h ↦ rw (ends_below-yes x c xs h) (r.0, h, run-front (suc x) hi c xs r.2)
  | inr h ↦ rw (ends_below-no x c xs h, ends_below-before (suc x) hi xs c r.2 (omega arith)) tt
]

pub run-back : (lo hi c : ℕ) (xs : List ℕ) → Run lo hi xs → Run c hi (drop (ends_below xs c) xs)
run-back lo hi c [] r = tt
run-back lo hi c (x ∷ xs) r = elim (cases_lt x c) [
  | inl h ↦ rw (ends_below-yes x c xs h) (run-back (suc x) hi c xs r.2)
  | inr h ↦ rw (ends_below-no x c xs h, ends_below-before (suc x) hi xs c r.2 (omega arith)) (h, r.1, r.2)
]

pub ends_below-mono : (xs : List ℕ) (c d : ℕ) → c ≤ d → ends_below xs c ≤ ends_below xs d
ends_below-mono [] c d h = omega arith
ends_below-mono (x ∷ xs) c d h = let k = ends_below-mono xs c d h in elim (cases_lt x c) [
  | inl a ↦ rw (ends_below-yes x c xs a, ends_below-yes x d xs (omega arith)) (omega arith)
  | inr a ↦ rw (ends_below-no x c xs a) (elim (cases_lt x d) [
    | inl b ↦ rw (ends_below-yes x d xs b) (omega arith)
    | inr b ↦ rw (ends_below-no x d xs b) (omega arith)
  ])
]

-- The first i numbers are below c, and the others are not.
pub below_is : (xs : List ℕ) (i c : ℕ) → i ≤ length xs → ((k : ℕ) → k < i → get_or xs k 0 < c)
    → ((k : ℕ) → i ≤ k → k < length xs → c ≤ get_or xs k 0) → i ≡ ends_below xs c
below_is [] i c h a b = omega arith
below_is (x ∷ xs) zero c h a b = rw (ends_below-no x c xs (b 0 (omega arith) (omega arith)))
    (below_is xs zero c (omega arith) (λ k p. absurd (omega arith)) (λ k p q. b (suc k) (omega arith) (omega arith)))
below_is (x ∷ xs) (suc i) c h a b = rw (ends_below-yes x c xs (a 0 (omega arith)))
    (ap suc (below_is xs i c (omega arith) (λ k p. a (suc k) (omega arith)) (λ k p q. b (suc k) (omega arith) (omega arith))))

pub run-least : (lo hi : ℕ) (xs : List ℕ) → Run lo hi xs → (k d : ℕ) → k < length xs → lo ≤ get_or xs k d
run-least lo hi [] r k d h = absurd (omega arith)
run-least lo hi (x ∷ xs) r zero d h = r.0
run-least lo hi (x ∷ xs) r (suc k) d h = let b = run-least (suc x) hi xs r.2 k d (omega arith) in omega (arith, r.0)

pub run-rises : (lo hi : ℕ) (xs : List ℕ) → Run lo hi xs → (i j d : ℕ) → i ≤ j → j < length xs → get_or xs i d ≤ get_or xs j d
run-rises lo hi [] r i j d h l = absurd (omega arith)
run-rises lo hi (x ∷ xs) r zero zero d h l = omega arith
run-rises lo hi (x ∷ xs) r zero (suc j) d h l = let b = run-least (suc x) hi xs r.2 j d (omega arith) in omega arith
run-rises lo hi (x ∷ xs) r (suc i) zero d h l = absurd (omega arith)
run-rises lo hi (x ∷ xs) r (suc i) (suc j) d h l = run-rises (suc x) hi xs r.2 i j d (omega arith) (omega arith)

-- The numbers before index `below xs m` are below m.
pub ends_below-front : (lo hi m : ℕ) (xs : List ℕ) → Run lo hi xs → (k : ℕ) → k < ends_below xs m → get_or xs k 0 < m
ends_below-front lo hi m [] r k h = absurd (omega arith)
ends_below-front lo hi m (x ∷ xs) r zero h = elim (cases_lt x m) [
  | inl a ↦ a
  | inr a ↦ absurd (let e = ends_below-no x m xs a in let f = ends_below-before (suc x) hi xs m r.2 (omega arith) in omega arith)
]
ends_below-front lo hi m (x ∷ xs) r (suc k) h = elim (cases_lt x m) [
  | inl a ↦ let e = ends_below-yes x m xs a in ends_below-front (suc x) hi m xs r.2 k (omega arith)
  | inr a ↦ absurd (let e = ends_below-no x m xs a in let f = ends_below-before (suc x) hi xs m r.2 (omega arith) in omega arith)
]

-- The index is the same for all numbers up to the next boundary.
pub ends_below-stays : (lo hi m n : ℕ) (xs : List ℕ) → Run lo hi xs → m ≤ n
    → (ends_below xs m < length xs → n ≤ get_or xs (ends_below xs m) 0) → ends_below xs m ≡ ends_below xs n
ends_below-stays lo hi m n xs r h next = below_is xs (ends_below xs m) n (ends_below-le xs m)
    (λ k p. let q = ends_below-front lo hi m xs r k p in omega arith)
    (λ k p q. let a = run-rises lo hi xs r (ends_below xs m) k 0 p q in let b = next (omega arith) in omega arith)

pub ends_below-more : (lo hi m : ℕ) (xs : List ℕ) → Run lo hi xs → (k : ℕ) → get_or xs k 0 < m → k < length xs → k < ends_below xs m
ends_below-more lo hi m [] r k h q = absurd (omega arith)
ends_below-more lo hi m (x ∷ xs) r zero h q = rw (ends_below-yes x m xs h) (omega arith)
ends_below-more lo hi m (x ∷ xs) r (suc k) h q = let b = ends_below-more (suc x) hi m xs r.2 k h (omega arith) in
    let l = run-least (suc x) hi xs r.2 k 0 (omega arith) in rw (ends_below-yes x m xs (omega arith)) (omega arith)

pub run-back-least : (lo hi m : ℕ) (xs : List ℕ) → Run lo hi xs → (k : ℕ) → ends_below xs m ≤ k → k < length xs → m ≤ get_or xs k 0
run-back-least lo hi m xs r k p q = elim (cases_lt (get_or xs k 0) m) [
  | inl h ↦ absurd (let b = ends_below-more lo hi m xs r k h q in omega arith)
  | inr h ↦ h
]

pub ends_below-zero : (xs : List ℕ) → ends_below xs 0 ≡ 0
ends_below-zero [] = refl
ends_below-zero (x ∷ xs) = rw (ends_below-no x 0 xs (omega arith)) (ends_below-zero xs)

pub ends_below-step : (lo hi x : ℕ) (xs : List ℕ) → Run lo hi xs → ends_below xs (suc x) ≤ ends_below xs x + 1
ends_below-step lo hi x [] r = omega arith
ends_below-step lo hi x (y ∷ ys) r = elim (cases_lt y x) [
  | inl h ↦ let k = ends_below-step (suc y) hi x ys r.2 in
      rw (ends_below-yes y (suc x) ys (omega arith), ends_below-yes y x ys h) (omega arith)
  | inr h ↦ elim (cases_lt x y) [
    | inl k ↦ rw (ends_below-no y (suc x) ys k, ends_below-no y x ys h, ends_below-before (suc y) hi ys (suc x) r.2 (omega arith))
        (omega arith)
    | inr k ↦ rw (ends_below-yes y (suc x) ys (omega arith), ends_below-before (suc y) hi ys (suc x) r.2 (omega arith)) (omega arith)
  ]
]
