-- The index of a code point among the boundaries of a valid list.
use Rattle.std.proofs.Common.{◌≡◌, ℕ, ◌+◌, ◌-◌, ◌%◌, ◌<◌, ◌≤◌, List, [], ◌∷◌, length, get_or, refl, sym, ◌∙◌, arith, suc, true, false, inl, inr}
use Rattle.std.specs.Prelude.{IsTrue, ◌↔◌, nat_le}
use Rattle.std.proofs.lemmas.Bool.{cases_eq, cases_lt, eq-eqb, ne_eqb, eqb-true, leb-true, le-leb, le-ltb, lt-leb, lt-ltb}
use Rattle.icu_zerovec.specs.CodePoints.{code_point_limit}
use Rattle.icu_invlist.specs.InversionList.{between, holds, IsValid, HoldsAll, IsSubset}
use Rattle.icu_invlist.specs.Inside.Places.{Run, ends_below}
use Rattle.icu_invlist.proofs.RunLemmas.{below_is, ends_below-le, ends_below-front, ends_below-more, ends_below-no, ends_below-stays, ends_below-yes, run-rises, run-back-least}
use Rattle.icu_invlist.proofs.Parity.{holds-ends_below}
use Rattle.icu_invlist.proofs.EqualSets.{holds-past}
use Rattle.icu_invlist.proofs.Searches.{place_of_end}
use Rattle.icu_invlist.proofs.ValidLists.{run_from_valid}

pub least_at : (xs : List ℕ) (i m : ℕ) → IsValid xs → i ≡ ends_below xs m → i < length xs → m ≤ get_or xs i 0
least_at xs i m v e h = run-back-least 0 (suc code_point_limit) m xs (run_from_valid xs v) i (omega arith) h

pub stays_at : (xs : List ℕ) (i m n : ℕ) → IsValid xs → i ≡ ends_below xs m → m ≤ n → (i < length xs → n ≤ get_or xs i 0)
    → i ≡ ends_below xs n
stays_at xs i m n v e h next = e ∙ ends_below-stays 0 (suc code_point_limit) m n xs (run_from_valid xs v) h (rw e at next)

-- The index moves past n.
pub moves_over : (xs : List ℕ) (i n : ℕ) → IsValid xs → i ≡ ends_below xs n → i < length xs → get_or xs i 0 ≡ n
    → i + 1 ≡ ends_below xs (suc n)
moves_over xs i n v e h k = below_is xs (i + 1) (suc n) (omega arith)
    (λ j p. let q = run-rises 0 (suc code_point_limit) xs (run_from_valid xs v) j i 0 (omega arith) h in omega arith)
    (λ j p q. let a = v.ascending i (omega arith) in let b = run-rises 0 (suc code_point_limit) xs (run_from_valid xs v) (i + 1) j 0 p q in
    omega arith)

pub stays_over : (xs : List ℕ) (i n : ℕ) → IsValid xs → i ≡ ends_below xs n → (i < length xs → get_or xs i 0 ≡ n → ⊥)
    → i ≡ ends_below xs (suc n)
stays_over xs i n v e h = stays_at xs i n (suc n) v e (omega arith)
    (λ k. let a = least_at xs i n v e k in elim (cases_eq (get_or xs i 0) n) [ inl p ↦ absurd (h k p) | inr p ↦ omega arith ])

pub run-length : (lo hi : ℕ) (xs : List ℕ) → lo ≤ hi → Run lo hi xs → lo + length xs ≤ hi
run-length lo hi [] h r = omega arith
run-length lo hi (x ∷ xs) h r = let a = run-length (suc x) hi xs (omega (arith, r.1)) r.2 in omega (arith, r.0)

pub valid-length : (xs : List ℕ) → IsValid xs → length xs ≤ suc code_point_limit
valid-length xs v = let a = run-length 0 (suc code_point_limit) xs (omega arith) (run_from_valid xs v) in omega arith

-- What a boundary says about the index of c.
pub place_behind : (xs : List ℕ) (m c : ℕ) → IsValid xs → m < length xs → get_or xs m 0 ≤ c → m + 1 ≤ ends_below xs (suc c)
place_behind xs m c v l h = let b = ends_below-more 0 (suc code_point_limit) (suc c) xs (run_from_valid xs v) m (omega arith) l in
    omega arith

pub place_front : (xs : List ℕ) (m c : ℕ) → IsValid xs → c < get_or xs m 0 → ends_below xs (suc c) ≤ m
place_front xs m c v h = elim (cases_lt m (ends_below xs (suc c))) [
  | inl k ↦ absurd (let f = ends_below-front 0 (suc code_point_limit) (suc c) xs (run_from_valid xs v) m k in omega arith)
  | inr k ↦ k
]

-- A boundary is at most c if and only if it is before the index of c.
pub up_to_end : (xs : List ℕ) (k c e : ℕ) → IsValid xs → k < length xs → e ≡ get_or xs k 0
    → IsTrue (nat_le e c) ↔ (k < ends_below xs (suc c))
up_to_end xs k c e v l h =
    let p = place_of_end (suc code_point_limit) xs k (suc c) (run_from_valid xs v) l in
    (λ t. p.0 (let a = leb-true _ _ t in omega arith), λ q. le-leb _ _ (let a = p.1 q in omega arith))

pub all_below : (xs : List ℕ) (n c : ℕ) → Run 0 (suc code_point_limit) xs → n ≡ length xs → 0 < n → get_or xs (n - 1) 0 < c
    → n ≡ ends_below xs c
all_below xs n c r e some h = below_is xs n c (omega arith)
    (λ k p. let q = run-rises 0 (suc code_point_limit) xs r k (n - 1) 0 (omega arith) (omega arith) in omega arith)
    (λ k p q. absurd (omega arith))

-- A code point in a range of the set.
pub covers_all : (xs : List ℕ) (i s e : ℕ) → IsValid xs → i ≡ ends_below xs (suc s) → i % 2 ≡ 1 → i < length xs → e ≤ get_or xs i 0
    → HoldsAll xs s e
covers_all xs i s e v p odd h l c a b = rw (holds-ends_below xs c, ← stays_at xs i (suc s) (suc c) v p (omega arith) (λ k. omega arith))
    (eq-eqb _ _ odd)

pub not_even : (xs : List ℕ) (i s e : ℕ) → i ≡ ends_below xs (suc s) → s < e → HoldsAll xs s e → (i % 2 ≡ 1 → ⊥) → ⊥
not_even xs i s e p h all n = n (rw p (eqb-true _ _ (sym (holds-ends_below xs s) ∙ all s (omega arith) h)))

pub not_past : (xs : List ℕ) (i s e : ℕ) → IsValid xs → i ≡ ends_below xs (suc s) → i % 2 ≡ 1 → i < length xs → HoldsAll xs s e
    → get_or xs i 0 < e → ⊥
not_past xs i s e v p odd h all l =
    let n = get_or xs i 0 in
    let a = least_at xs i (suc s) v p h in
    let q : i ≡ ends_below xs n = stays_at xs i (suc s) n v p a (λ k. omega arith) in
    let t : i + 1 ≡ ends_below xs (suc n) = moves_over xs i n v q h refl in
    let u = eqb-true _ _ (sym (holds-ends_below xs n) ∙ all n (omega arith) l) in omega arith

pub within-place : (xs : List ℕ) (i c : ℕ) → IsValid xs → i ≡ ends_below xs c → i % 2 ≡ 1 → i < length xs
within-place xs i c v p odd = let a = ends_below-le xs c in let b = v.even in
    elim (cases_eq i (length xs)) [ inl e ↦ absurd (omega arith) | inr e ↦ omega arith ]

pub not_past_limit : (xs : List ℕ) (c : ℕ) → IsValid xs → code_point_limit ≤ c → holds xs c ≡ false
not_past_limit xs c v h = let e = holds-past xs c v h in holds-ends_below xs c ∙ ne_eqb _ _ (λ k. omega arith)

-- The set contains the code points of its ranges, and each code point in the set is in a range.
pub in_pair : (xs : List ℕ) (k c : ℕ) → IsValid xs → k % 2 ≡ 0 → k + 1 < length xs → get_or xs k 0 ≤ c → c < get_or xs (k + 1) 0
    → holds xs c ≡ true
in_pair xs k c v even l a b =
    let e : k + 1 ≡ ends_below xs (suc c) = below_is xs (k + 1) (suc c) (omega arith)
    (λ i h. let q = run-rises 0 (suc code_point_limit) xs (run_from_valid xs v) i k 0 (omega arith) (omega arith) in omega arith)
    (λ i h t. let q = run-rises 0 (suc code_point_limit) xs (run_from_valid xs v) (k + 1) i 0 h t in omega arith) in
    rw (holds-ends_below xs c, ← e) (eq-eqb _ _ (omega arith))

pub record InPair (xs : List ℕ) (c : ℕ) : Type 0 where
  pub place : ℕ
  pub even : place % 2 ≡ 0
  pub inside : place + 1 < length xs
  pub from : get_or xs place 0 ≤ c
  pub to : c < get_or xs (place + 1) 0

pub pair_of : (xs : List ℕ) (c : ℕ) → IsValid xs → holds xs c ≡ true → InPair xs c
pair_of xs c v h =
    let odd = eqb-true _ _ (sym (holds-ends_below xs c) ∙ h) in
    let p = ends_below xs (suc c) in
    let l = within-place xs p (suc c) v refl odd in
    let e : (p - 1) + 1 ≡ p = omega arith in
    let a = ends_below-front 0 (suc code_point_limit) (suc c) xs (run_from_valid xs v) (p - 1) (omega arith) in
    let b = run-back-least 0 (suc code_point_limit) (suc c) xs (run_from_valid xs v) p (omega arith) l in
    record { place = p - 1; even = omega arith; inside = omega arith; from = omega arith; to = rw e (omega arith) }

pub subset_from : (part whole : List ℕ) (n : ℕ) → IsValid part → length part ≤ n
    → ((k : ℕ) → k + 1 < n → k % 2 ≡ 0 → HoldsAll whole (get_or part k 0) (get_or part (k + 1) 0)) → IsSubset part whole
subset_from part whole n v l all c h t = let p = pair_of part c v t in all p.place (let a = p.inside in omega arith) p.even c p.from p.to

pub all_from_subset : (part whole : List ℕ) (k : ℕ) → IsValid part → k % 2 ≡ 0 → k + 1 < length part → IsSubset part whole
    → HoldsAll whole (get_or part k 0) (get_or part (k + 1) 0)
all_from_subset part whole k v even l sub c a b = sub c (let w = v.within (k + 1) 0 l in omega arith) (in_pair part k c v even l a b)

-- ---- subsets
-- The set `whole` contains the ranges of `part` before index i.
pub record HoldsBefore (part whole : List ℕ) (i : ℕ) : Type 0 where
  pub even : i % 2 ≡ 0
  pub ranges : (k : ℕ) → k + 1 < i → k % 2 ≡ 0 → HoldsAll whole (get_or part k 0) (get_or part (k + 1) 0)

pub holds_before_any : (part whole : List ℕ) → HoldsBefore part whole 0
holds_before_any part whole = record { even = omega arith; ranges = λ k h. absurd (omega arith) }

pub holds_more : (part whole : List ℕ) (i : ℕ) → HoldsBefore part whole i → HoldsAll whole (get_or part i 0) (get_or part (i + 1) 0)
    → HoldsBefore part whole (i + 2)
holds_more part whole i b all = record {
  even = (let e = b.even in omega arith);
  ranges = λ k h e. elim (cases_lt (k + 1) i) [
    | inl l ↦ b.ranges k l e
    | inr l ↦ (let s : k ≡ i = (let d = b.even in omega arith) in rw s all)
  ];
}

pub holds_whole : (part whole : List ℕ) (i : ℕ) → HoldsBefore part whole i → IsValid part → length part ≤ i → IsSubset part whole
holds_whole part whole i b v l = subset_from part whole i v l b.ranges

pub last_of_pair : (xs : List ℕ) (i : ℕ) → IsValid xs → i % 2 ≡ 0 → i < length xs → i + 1 < length xs
last_of_pair xs i v e l = let d = v.even in omega arith

-- The first and the last boundary of a subset are within those of the whole set.
pub first_within : (part whole : List ℕ) → IsValid part → IsValid whole → 0 < length part → IsSubset part whole
    → get_or whole 0 0 ≤ get_or part 0 0
first_within part whole v w some sub = elim (cases_lt (get_or part 0 0) (get_or whole 0 0)) [
  | inl h ↦ absurd
      (let r = all_from_subset part whole 0 v refl (last_of_pair part 0 v refl some) sub in
      let a = v.ascending 0 (last_of_pair part 0 v refl some) in
      let p = place_front whole 0 (get_or part 0 0) w h in
      not_even whole 0 (get_or part 0 0) (get_or part 1 0) (omega arith) a r (λ e. omega arith))
  | inr h ↦ h
]

pub last_within : (part whole : List ℕ) (m n : ℕ) → IsValid part → IsValid whole → m ≡ length part → n ≡ length whole → 0 < m → 0 < n
    → IsSubset part whole
    → get_or part (m - 1) 0 ≤ get_or whole (n - 1) 0
last_within part whole m n v w pm pn some more sub = elim (cases_lt (get_or whole (n - 1) 0) (get_or part (m - 1) 0)) [
  | inl h ↦ absurd
      (let c = get_or part (m - 1) 0 - 1 in
      let even : (m - 2) % 2 ≡ 0 = (let d = v.even in omega arith) in
      let second : (m - 2) + 1 ≡ m - 1 = (let d = v.even in omega arith) in
      let inside : (m - 2) + 1 < length part = (let d = v.even in omega arith) in
      let a : get_or part (m - 2) 0 < get_or part (m - 1) 0 = rw second at (v.ascending (m - 2) inside) in
      let r : HoldsAll whole (get_or part (m - 2) 0) (get_or part (m - 1) 0) =
      rw second at (all_from_subset part whole (m - 2) v even inside sub) in
      let held : holds whole c ≡ true = r c (omega arith) (omega arith) in
      let p : n ≡ ends_below whole (suc c) = all_below whole n (suc c) (run_from_valid whole w) pn more (omega arith) in
      let odd = eqb-true _ _ (sym (holds-ends_below whole c) ∙ held) in
      (let d = w.even in omega arith))
  | inr h ↦ h
]

-- The set with two boundaries is one range.
pub one_range : (xs : List ℕ) (c s e : ℕ) → IsValid xs → length xs ≡ 2 → s ≡ get_or xs 0 0 → e ≡ get_or xs 1 0 → between s e c ≡ holds xs c
one_range (x ∷ y ∷ []) c s e v l p q =
    let up : x < y = v.ascending 0 (omega arith) in
    rw (p, q, holds-ends_below (x ∷ y ∷ []) c) (elim (cases_lt c x) [
      | inl h ↦ rw (lt-leb x c h, ends_below-no x (suc c) (y ∷ []) (omega arith), ends_below-no y (suc c) [] (omega arith)) refl
      | inr h ↦ elim (cases_lt c y) [
        | inl k ↦ rw (le-leb x c h, lt-ltb c y k, ends_below-yes x (suc c) (y ∷ []) (omega arith), ends_below-no y (suc c) [] (omega arith))
            refl
        | inr k ↦ rw (
          le-leb x c h,
          le-ltb c y k,
          ends_below-yes x (suc c) (y ∷ []) (omega arith),
          ends_below-yes y (suc c) [] (omega arith),
        ) refl
      ]
    ])
one_range [] c s e v l p q = absurd (omega arith)
one_range (x ∷ []) c s e v l p q = absurd (omega arith)
one_range (x ∷ y ∷ z ∷ zs) c s e v l p q = absurd (omega arith)
