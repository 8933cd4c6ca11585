-- The ranges and the members of a set.
use Rattle.std.proofs.Common.{◌≡◌, ℕ, ◌+◌, ◌-◌, ◌*◌, ◌/◌, ◌%◌, ◌<◌, ◌≤◌, List, [], ◌∷◌, length, get_or, take, drop, Some, slice_get, refl, ap, sym, ◌∙◌, arith, zero, suc, min, Bool, true, false, cond, inl, inr}
use Rattle.std.proofs.lemmas.Bool.{cases_lt, cases_eq, eq-eqb, ne_eqb}
use Rattle.std.specs.declared.ops.RangeInclusive.{RangeInclusive}
use Rattle.std.proofs.lemmas.List.{drop_more}
use Rattle.std.proofs.lemmas.List.Elements.{All-cons, All-nil}
use Rattle.std.specs.List.{All}
use Rattle.icu_zerovec.specs.CodePoints.{code_point_limit}
use Rattle.icu_invlist.specs.InversionList.{holds, is_odd, IsOfCodePoints, IsValid, ranges_of, members_below}
use Rattle.icu_invlist.specs.Inside.PackedSets.{sum_of_sizes}
use Rattle.icu_invlist.specs.Inside.Places.{Run, ends_below}
use Rattle.icu_invlist.proofs.RunLemmas.{ends_below-before, ends_below-yes, ends_below-no, run-wider}
use Rattle.icu_invlist.proofs.Parity.{holds-ends_below, odd_same}
use Rattle.icu_invlist.proofs.ValidLists.{run_from_valid, valid_from_run}

pub length-ranges : (xs : List ℕ) → length (ranges_of xs) ≡ length xs / 2
length-ranges [] = refl
length-ranges (x ∷ []) = refl
length-ranges (x ∷ y ∷ xs) = let e = length-ranges xs in omega arith

-- What is left after a range.
pub rest_valid : (x y : ℕ) (xs : List ℕ) → IsValid (x ∷ y ∷ xs) → IsValid xs
rest_valid x y xs v = let r = run_from_valid (x ∷ y ∷ xs) v in
    valid_from_run xs (run-wider (suc y) (suc code_point_limit) 0 (suc code_point_limit) xs (omega arith) (omega arith) r.2.2)
    (let e = v.even in omega arith)

-- Each range of a set is not empty, and all its numbers are code points.
pub ranges_within : (xs : List ℕ) → IsValid xs → All IsOfCodePoints (ranges_of xs)
ranges_within [] v = All-nil IsOfCodePoints
ranges_within (x ∷ []) v = All-nil IsOfCodePoints
ranges_within (x ∷ y ∷ xs) v =
    let r = run_from_valid (x ∷ y ∷ xs) v in
    All-cons IsOfCodePoints (record { start = x; end = y - 1; exhausted = false }) (ranges_of xs)
    (omega (arith, r.2.0), omega (arith, r.2.0, r.2.1)) (ranges_within xs (rest_valid x y xs v))

pub no_single : (x : ℕ) → IsValid (x ∷ []) → ⊥
no_single x v = let e = v.even in omega arith

-- ---- how many members
flag-is : (n : ℕ) → cond (is_odd n) 1 0 ≡ n % 2
flag-is n = elim (cases_eq (n % 2) 1) [ inl h ↦ rw (eq-eqb _ _ h) (sym h) | inr h ↦ rw (ne_eqb _ _ h) (omega arith) ]

held : (xs : List ℕ) (c : ℕ) → cond (holds xs c) 1 0 ≡ ends_below xs (suc c) % 2
held xs c = ap (λ (b : Bool). cond b 1 0) (holds-ends_below xs c) ∙ flag-is (ends_below xs (suc c))

first_pair : (lo hi s e c : ℕ) (xs : List ℕ) → Run lo hi (s ∷ e ∷ xs)
    → ends_below (s ∷ e ∷ xs) (suc c) % 2 + (min e c - min s c) ≡ ends_below xs (suc c) % 2 + (min e (suc c) - min s (suc c))
first_pair lo hi s e c xs r = elim (cases_lt c s) [
  | inl h ↦ rw (ends_below-no s (suc c) (e ∷ xs) h, ends_below-no e (suc c) xs (omega (arith, r.2.0))) (omega (arith, r.2.0))
  | inr h ↦ elim (cases_lt c e) [
    | inl k ↦ let z = ends_below-before (suc e) hi xs (suc c) r.2.2 (omega arith) in
        rw (ends_below-yes s (suc c) (e ∷ xs) (omega arith), ends_below-no e (suc c) xs k, z) (omega (arith, r.2.0))
    | inr k ↦ rw (ends_below-yes s (suc c) (e ∷ xs) (omega arith), ends_below-yes e (suc c) xs (omega arith)) (omega (arith, r.2.0))
  ]
]

pub members-pair : (lo hi s e m : ℕ) (xs : List ℕ) → Run lo hi (s ∷ e ∷ xs)
    → members_below (s ∷ e ∷ xs) m ≡ (min e m - min s m) + members_below xs m
unfolding members_below
members-pair lo hi s e zero xs r = omega arith
members-pair lo hi s e (suc m) xs r =
    let i = members-pair lo hi s e m xs r in
    let p = first_pair lo hi s e m xs r in
    let a = held (s ∷ e ∷ xs) m in
    let b = held xs m in
    omega (arith, r.2.0)

pub members-none : (m : ℕ) → members_below [] m ≡ 0
unfolding members_below
members-none zero = refl
members-none (suc m) = let a = members-none m in let b = held [] m in omega arith

pub size_is : (lo hi m : ℕ) (xs : List ℕ) → Run lo hi xs → hi ≤ suc m → length xs % 2 ≡ 0 → members_below xs m ≡ sum_of_sizes xs
size_is lo hi m [] r h e = members-none m
size_is lo hi m (s ∷ []) r h e = absurd (omega arith)
size_is lo hi m (s ∷ y ∷ xs) r h e = let i = size_is (suc y) hi m xs r.2.2 h (omega arith) in
    let p = members-pair lo hi s y m xs r in omega (arith, r.2.0, r.2.1)

pub size-valid : (xs : List ℕ) → IsValid xs → members_below xs code_point_limit ≡ sum_of_sizes xs
size-valid xs v = size_is 0 (suc code_point_limit) code_point_limit xs (run_from_valid xs v) (omega arith) v.even

pub total-more : (xs : List ℕ) (i : ℕ) → i % 2 ≡ 0 → i + 1 < length xs
    → sum_of_sizes (drop i xs) ≡ (get_or xs (i + 1) 0 - get_or xs i 0) + sum_of_sizes (drop (i + 2) xs)
total-more xs i e h = rw (drop_more xs i 0 (omega arith), drop_more xs (i + 1) 0 h)
    (ap (λ (n : ℕ). (get_or xs (i + 1) 0 - get_or xs i 0) + sum_of_sizes (drop n xs)) (omega arith))

pub total-le : (lo hi : ℕ) (xs : List ℕ) → lo ≤ hi → Run lo hi xs → sum_of_sizes xs + lo ≤ hi
total-le lo hi [] h r = omega arith
total-le lo hi (s ∷ []) h r = omega arith
total-le lo hi (s ∷ e ∷ xs) h r = let i = total-le (suc e) hi xs (omega (arith, r.2.1)) r.2.2 in omega (arith, r.0, r.2.0, r.2.1)

pub members-before : (lo hi m : ℕ) (xs : List ℕ) → Run lo hi xs → m ≤ lo → members_below xs m ≡ 0
unfolding members_below
members-before lo hi zero xs r h = refl
members-before lo hi (suc m) xs r h = let a = members-before lo hi m xs r (omega arith) in let b = held xs m in
    let z = ends_below-before lo hi xs (suc m) r h in omega arith

-- A strictly ascending list from an index on.
pub run-drop : (lo hi i : ℕ) (xs : List ℕ) → Run lo hi xs → Run lo hi (drop i xs)
run-drop lo hi zero xs r = r
run-drop lo hi (suc i) [] r = tt
run-drop lo hi (suc i) (x ∷ xs) r = run-wider (suc x) hi lo hi (drop i xs) (omega (arith, r.0)) (omega arith) (run-drop (suc x) hi i xs r.2)

pub drop_pair : (xs : List ℕ) (i : ℕ) → i + 1 < length xs → drop i xs ≡ get_or xs i 0 ∷ get_or xs (i + 1) 0 ∷ drop (i + 2) xs
drop_pair xs i h = rw (drop_more xs i 0 (omega arith), drop_more xs (i + 1) 0 h)
    (ap (λ (n : ℕ). get_or xs i 0 ∷ get_or xs (i + 1) 0 ∷ drop n xs) (omega arith))

-- ---- a code point compared with the first range
module _ (lo hi s e c : ℕ) (xs : List ℕ) (r : Run lo hi (s ∷ e ∷ xs)) where
  pub pair_past : e ≤ c → (holds (s ∷ e ∷ xs) c ≡ holds xs c) × (members_below (s ∷ e ∷ xs) c ≡ (e - s) + members_below xs c)
  pair_past h = (
    rw (holds-ends_below (s ∷ e ∷ xs) c, holds-ends_below xs c) (odd_same _ _
        (rw (ends_below-yes s (suc c) (e ∷ xs) (omega (arith, r.2.0)), ends_below-yes e (suc c) xs (omega arith)) (omega arith))),
    (let p = members-pair lo hi s e c xs r in omega (arith, r.2.0)),
  )

  pub pair_in : s ≤ c → c < e → (holds (s ∷ e ∷ xs) c ≡ true) × (members_below (s ∷ e ∷ xs) c ≡ c - s)
  pair_in h k = (
    holds-ends_below (s ∷ e ∷ xs) c ∙ eq-eqb _ _ (let z = ends_below-before (suc e) hi xs (suc c) r.2.2 (omega arith) in
        rw (ends_below-yes s (suc c) (e ∷ xs) (omega arith), ends_below-no e (suc c) xs k, z) (omega arith)),
    (let p = members-pair lo hi s e c xs r in let z = members-before (suc e) hi c xs r.2.2 (omega arith) in omega (arith, r.2.0)),
  )

  pub pair_before : c < s → holds (s ∷ e ∷ xs) c ≡ false
  pair_before h = holds-ends_below (s ∷ e ∷ xs) c
      ∙ ne_eqb _ _ (λ k. let z = ends_below-before s hi (s ∷ e ∷ xs) (suc c) (omega arith, r.1, r.2) h in omega arith)

-- What a loop over the ranges knows at index i.
pub record Walked (xs : List ℕ) (i c before : ℕ) : Type 0 where
  pub even : i % 2 ≡ 0
  pub held : holds xs c ≡ holds (drop i xs) c
  pub so_far : members_below xs c ≡ before + members_below (drop i xs) c
  pub small : before + sum_of_sizes (drop i xs) ≡ sum_of_sizes xs

module _ (xs : List ℕ) (i c before s e : ℕ) (v : IsValid xs) (w : Walked xs i c before) (h : i + 1 < length xs) (a : s ≡ get_or xs i 0)
    (b : e ≡ get_or xs (i + 1) 0) where
  parts : drop i xs ≡ s ∷ e ∷ drop (i + 2) xs
  parts = drop_pair xs i h ∙ rw (a, b) refl

  rises : Run 0 (suc code_point_limit) (s ∷ e ∷ drop (i + 2) xs)
  rises = rw parts at (run-drop 0 (suc code_point_limit) i xs (run_from_valid xs v))

  pub walked_room : before + (e - s) ≤ suc code_point_limit
  walked_room = let t = ap sum_of_sizes parts in let q = total-le 0 (suc code_point_limit) xs (omega arith) (run_from_valid xs v) in
      let u = w.small in omega arith

  pub walked_in : s ≤ c → c < e → (holds xs c ≡ true) × (members_below xs c ≡ before + (c - s))
  walked_in k l = let p = pair_in 0 (suc code_point_limit) s e c (drop (i + 2) xs) rises k l in
      (w.held ∙ rw parts p.0, w.so_far ∙ rw parts (ap (λ (n : ℕ). before + n) p.1))

  pub walked_past : e ≤ c → Walked xs (i + 2) c (before + (e - s))
  walked_past k = let p = pair_past 0 (suc code_point_limit) s e c (drop (i + 2) xs) rises k in record {
    even = (let x = w.even in omega arith);
    held = w.held ∙ rw parts p.0;
    so_far = (let t = ap (λ (ys : List ℕ). members_below ys c) parts in let q = p.1 in let u = w.so_far in omega arith);
    small = (let t = ap sum_of_sizes parts in let u = w.small in omega arith);
  }

-- A loop over the ranges before index i, whose boundaries are at most c.
pub walked_to : (xs : List ℕ) (i c : ℕ) → IsValid xs → i % 2 ≡ 0 → i ≤ length xs → ((k : ℕ) → k < i → get_or xs k 0 ≤ c)
    → Walked xs i c (sum_of_sizes (take i xs))
walked_to xs zero c v e l h = record { even = refl; held = refl; so_far = omega arith; small = omega arith }
walked_to [] (suc i) c v e l h = absurd (omega arith)
walked_to (s ∷ xs) (suc zero) c v e l h = absurd (omega arith)
walked_to (s ∷ []) (suc (suc i)) c v e l h = absurd (omega arith)
walked_to (s ∷ t ∷ xs) (suc (suc i)) c v e l h =
    let w = walked_to xs i c (rest_valid s t xs v) (omega arith) (omega arith) (λ k q. h (suc (suc k)) (omega arith)) in
    let p = pair_past 0 (suc code_point_limit) s t c xs (run_from_valid (s ∷ t ∷ xs) v) (h 1 (omega arith)) in
    record {
      even = e;
      held = p.0 ∙ w.held;
      so_far = (let a = p.1 in let b = w.so_far in omega arith);
      small = (let a = w.small in omega arith);
    }

-- ---- the range at an index
pub nth : (xs : List ℕ) (k : ℕ) → k * 2 + 1 < length xs
    → slice_get (ranges_of xs) k ≡ Some (record { start = get_or xs (k * 2) 0; end = get_or xs (k * 2 + 1) 0 - 1; exhausted = false })
nth [] k h = absurd (omega arith)
nth (x ∷ []) k h = absurd (omega arith)
nth (x ∷ y ∷ xs) zero h = refl
nth (x ∷ y ∷ xs) (suc k) h =
    let a : suc k * 2 ≡ suc (suc (k * 2)) = omega arith in
    let b : suc k * 2 + 1 ≡ suc (suc (k * 2 + 1)) = omega arith in
    rw (b, a) (nth xs k (omega arith))

pub same_range : (r : RangeInclusive ℕ) (s e : ℕ) → r.start ≡ s → r.end ≡ e → r.exhausted ≡ false
    → r ≡ record { start = s; end = e; exhausted = false }
same_range r s e a b x = rw (← a, ← b, ← x) refl
