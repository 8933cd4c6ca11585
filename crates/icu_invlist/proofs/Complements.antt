-- The boundaries of the complement of a set.
use Rattle.std.proofs.Common.{◌≡◌, ℕ, ◌+◌, ◌%◌, ◌<◌, ◌≤◌, List, [], ◌∷◌, length, refl, ap, sym, ◌∙◌, arith, suc, true, false, not, inl, inr, Option, Some, None, eqb}
use Rattle.std.specs.Option.{MatchOption}
use Rattle.std.proofs.lemmas.Bool.{cases_lt, cases_order, cases_eq, both_ways, eq-eqb, ne_eqb, cond-true, cond-false, lt-ltb, le-ltb}
use Rattle.icu_zerovec.specs.CodePoints.{code_point_limit}
use Rattle.icu_invlist.specs.InversionList.{holds, is_odd, IsValid, toggle_front, toggle_back, complement_of}
use Rattle.icu_invlist.specs.Inside.Places.{Run, ends_below}
use Rattle.icu_invlist.specs.Inside.StillGiven.{gaps_left, start_at}
use Rattle.icu_invlist.proofs.RunLemmas.{ends_below-before, ends_below-yes, ends_below-no, run-wider}
use Rattle.icu_invlist.proofs.Parity.{holds-ends_below}
use Rattle.icu_invlist.proofs.Toggles.{odd_next, odd_before}
use Rattle.icu_invlist.proofs.MemberLemmas.{no_single, rest_valid}
use Rattle.icu_invlist.proofs.ValidLists.{run_from_valid, valid_from_run}

-- ---- the end of the code space added or removed
pub back_is : (e : ℕ) (xs : List ℕ) → e ≡ code_point_limit → toggle_back (e ∷ xs) ≡ []
back_is e xs h = cond-true (eqb e code_point_limit) [] (e ∷ toggle_back xs) (eq-eqb e code_point_limit h)

pub back_more : (e : ℕ) (xs : List ℕ) → (e ≡ code_point_limit → ⊥) → toggle_back (e ∷ xs) ≡ e ∷ toggle_back xs
back_more e xs h = cond-false (eqb e code_point_limit) [] (e ∷ toggle_back xs) (ne_eqb e code_point_limit h)

none_above : (xs : List ℕ) → Run (suc code_point_limit) (suc code_point_limit) xs → xs ≡ []
none_above [] r = refl
none_above (x ∷ xs) r = absurd (omega (arith, r.0, r.1))

back-run : (lo : ℕ) (xs : List ℕ) → lo ≤ code_point_limit → Run lo (suc code_point_limit) xs
    → Run lo (suc code_point_limit) (toggle_back xs)
back-run lo [] h r = (h, omega arith, tt)
back-run lo (e ∷ xs) h r = elim (cases_eq e code_point_limit) [
  | inl k ↦ rw (back_is e xs k) tt
  | inr k ↦ rw (back_more e xs k) (r.0, r.1, back-run (suc e) xs (omega (arith, r.1)) r.2)
]

back-length : (lo : ℕ) (xs : List ℕ) → Run lo (suc code_point_limit) xs → length (toggle_back xs) % 2 ≡ (length xs + 1) % 2
back-length lo [] r = refl
back-length lo (e ∷ xs) r = elim (cases_eq e code_point_limit) [
  | inl k ↦ rw (back_is e xs k, none_above xs (rw k at r.2)) refl
  | inr k ↦ rw (back_more e xs k) (let n = back-length (suc e) xs r.2 in omega arith)
]

back-ends_below : (lo c : ℕ) (xs : List ℕ) → c < code_point_limit → Run lo (suc code_point_limit) xs
    → ends_below (toggle_back xs) (suc c) ≡ ends_below xs (suc c)
back-ends_below lo c [] h r = ends_below-no code_point_limit (suc c) [] (omega arith)
back-ends_below lo c (e ∷ xs) h r = elim (cases_eq e code_point_limit) [
  | inl k ↦ rw (back_is e xs k, ends_below-no e (suc c) xs (omega arith))
      (sym (ends_below-before (suc e) (suc code_point_limit) xs (suc c) r.2 (omega arith)))
  | inr k ↦ rw (back_more e xs k) (elim (cases_lt e (suc c)) [
    | inl l ↦ rw (ends_below-yes e (suc c) (toggle_back xs) l, ends_below-yes e (suc c) xs l) (ap suc (back-ends_below (suc e) c xs h r.2))
    | inr l ↦ rw (ends_below-no e (suc c) (toggle_back xs) l, ends_below-no e (suc c) xs l) (back-ends_below (suc e) c xs h r.2)
  ])
]

-- ---- 0 added or removed
front_is : (e : ℕ) (xs : List ℕ) → e ≡ 0 → toggle_front (e ∷ xs) ≡ xs
front_is e xs h = cond-true (eqb e 0) xs (0 ∷ e ∷ xs) (eq-eqb e 0 h)

front_more : (e : ℕ) (xs : List ℕ) → (e ≡ 0 → ⊥) → toggle_front (e ∷ xs) ≡ 0 ∷ e ∷ xs
front_more e xs h = cond-false (eqb e 0) xs (0 ∷ e ∷ xs) (ne_eqb e 0 h)

front-run : (xs : List ℕ) → Run 0 (suc code_point_limit) xs → Run 0 (suc code_point_limit) (toggle_front xs)
front-run [] r = (omega arith, omega arith, tt)
front-run (e ∷ xs) r = elim (cases_eq e 0) [
  | inl k ↦ rw (front_is e xs k) (run-wider (suc e) (suc code_point_limit) 0 (suc code_point_limit) xs (omega arith) (omega arith) r.2)
  | inr k ↦ rw (front_more e xs k) (omega arith, omega arith, (omega arith, r.1, r.2))
]

front-length : (xs : List ℕ) → length (toggle_front xs) % 2 ≡ (length xs + 1) % 2
front-length [] = refl
front-length (e ∷ xs) = elim (cases_eq e 0) [
  | inl k ↦ rw (front_is e xs k) (omega arith)
  | inr k ↦ rw (front_more e xs k) (omega arith)
]

front-holds : (c : ℕ) (xs : List ℕ) → is_odd (ends_below (toggle_front xs) (suc c)) ≡ not (is_odd (ends_below xs (suc c)))
front-holds c [] = rw (ends_below-yes 0 (suc c) [] (omega arith)) (odd_next 0)
front-holds c (e ∷ xs) = elim (cases_eq e 0) [
  | inl k ↦ rw (front_is e xs k, ends_below-yes e (suc c) xs (omega arith))
      (odd_before (ends_below xs (suc c)) ∙ ap (λ (n : ℕ). not (is_odd n)) (omega arith))
  | inr k ↦ rw (front_more e xs k, ends_below-yes 0 (suc c) (e ∷ xs) (omega arith))
      (ap is_odd (omega arith) ∙ odd_next (ends_below (e ∷ xs) (suc c)))
]

-- ---- both
pub complement_valid : (xs : List ℕ) → IsValid xs → IsValid (complement_of xs)
complement_valid xs v = valid_from_run (complement_of xs) (front-run (toggle_back xs) (back-run 0 xs (omega arith) (run_from_valid xs v)))
    (let a = front-length (toggle_back xs) in let b = back-length 0 xs (run_from_valid xs v) in let d = v.even in omega arith)

pub complement-holds : (xs : List ℕ) (c : ℕ) → IsValid xs → c < code_point_limit → holds (complement_of xs) c ≡ not (holds xs c)
complement-holds xs c v h = holds-ends_below (complement_of xs) c ∙ (front-holds c (toggle_back xs)
    ∙ ap not (ap is_odd (back-ends_below 0 c xs h (run_from_valid xs v)) ∙ sym (holds-ends_below xs c)))

-- ---- the gaps that are left
-- A gap after a range of the set.
pub gap_behind : (lo : ℕ) (ys zs : List ℕ) (r : Option ℕ) → 0 < length ys → Run lo (suc code_point_limit) (toggle_back ys)
    → MatchOption r ((ys ≡ []) × (zs ≡ [])) (λ x. ys ≡ x ∷ zs) → gaps_left (start_at r) zs ≡ toggle_back ys
gap_behind lo ys zs None h up m = absurd (omega (arith, ap (λ (ws : List ℕ). length ws) m.0))
gap_behind lo ys zs (Some x) h up m = elim (cases_order x code_point_limit) [
  | inl e ↦ rw (m, back_is x zs e, le-ltb x code_point_limit (omega arith)) refl
  | inr o ↦ elim o [
    | inl k ↦ rw (m, back_more x zs (λ e. omega arith), lt-ltb x code_point_limit k) refl
    | inr k ↦ absurd (let u = rw (m, back_more x zs (λ e. omega arith)) at up in omega (arith, u.1))
  ]
]

-- The next gap, and the gaps after it.
pub next_gap : (start e : ℕ) (ends ys zs : List ℕ) (o r s : Option ℕ) → IsValid (gaps_left o ends) → o ≡ Some start → ends ≡ e ∷ ys
    → MatchOption r ((ys ≡ []) × (zs ≡ [])) (λ x. ys ≡ x ∷ zs) → s ≡ start_at r
    → IsValid (gaps_left s zs) × (gaps_left o ends ≡ start ∷ e ∷ gaps_left s zs)
next_gap start e ends ys zs o r s v a b m t = elim (cases_eq e code_point_limit) [
  | inl k ↦ absurd (no_single start (rw (a, b, back_is e ys k) at v))
  | inr k ↦
      let w : IsValid (start ∷ e ∷ toggle_back ys) = rw (a, b, back_more e ys k) at v in
      let some : 0 < length ys = some_behind ys w.even in
      let g : gaps_left s zs ≡ toggle_back ys = rw t (gap_behind (suc e) ys zs r some (run_from_valid _ w).2.2 m) in
      (rw g (rest_valid start e (toggle_back ys) w), rw (a, b, back_more e ys k, g) refl)
]
  where
    some_behind : (ys : List ℕ) → length (start ∷ e ∷ toggle_back ys) % 2 ≡ 0 → 0 < length ys
    some_behind [] h = absurd (omega arith)
    some_behind (y ∷ ys) h = omega arith

-- The case that the set contains 0.
zero_first : (x : ℕ) (ys : List ℕ) → Run 0 (suc code_point_limit) (x ∷ ys) → holds (x ∷ ys) 0 ≡ true → x ≡ 0
zero_first x ys r h = elim (cases_eq x 0) [
  | inl e ↦ e
  | inr e ↦
      absurd
      (both_ways _ (ap is_odd (ends_below-no x 1 ys (omega arith)
      ∙ ends_below-before (suc x) (suc code_point_limit) ys 1 r.2 (omega arith))) (sym (holds-ends_below (x ∷ ys) 0) ∙ h))
]

pub gaps_from_zero : (xs ys zs : List ℕ) (q r : Option ℕ) → IsValid xs → holds xs 0 ≡ true
    → MatchOption q ((xs ≡ []) × (ys ≡ [])) (λ x. xs ≡ x ∷ ys)
    → MatchOption r ((ys ≡ []) × (zs ≡ [])) (λ x. ys ≡ x ∷ zs) → gaps_left (start_at r) zs ≡ complement_of xs
gaps_from_zero xs ys zs None r v h m n = absurd (both_ways _ (holds-ends_below [] 0) (rw m.0 at h))
gaps_from_zero xs ys zs (Some x) r v h m n =
    let up : Run 0 (suc code_point_limit) (x ∷ ys) = rw m at (run_from_valid xs v) in
    let e : x ≡ 0 = zero_first x ys up (rw m at h) in
    let b : Run 0 (suc code_point_limit) (x ∷ toggle_back ys) =
    rw (back_more x ys (λ k. omega arith)) at (back-run 0 (x ∷ ys) (omega arith) up) in
    let some : 0 < length ys = some_behind ys (rw m at v.even) in
    gap_behind (suc x) ys zs r some b.2 n ∙ sym (rw (m, back_more x ys (λ k. omega arith)) (front_is x (toggle_back ys) e))
  where
    some_behind : (ys : List ℕ) → length (x ∷ ys) % 2 ≡ 0 → 0 < length ys
    some_behind [] h = absurd (omega arith)
    some_behind (y ∷ ys) h = omega arith

-- The case that the set does not contain 0.
pub gaps_from_start : (xs : List ℕ) → IsValid xs → holds xs 0 ≡ false → 0 ∷ toggle_back xs ≡ complement_of xs
gaps_from_start [] v h = refl
gaps_from_start (e ∷ xs) v h = elim (cases_eq e code_point_limit) [
  | inl k ↦ rw (back_is e xs k) refl
  | inr k ↦ rw (back_more e xs k) (sym (front_more e (toggle_back xs) (λ z.
      let r = run_from_valid (e ∷ xs) v in
      both_ways _ h (holds-ends_below (e ∷ xs) 0
      ∙ ap is_odd (ends_below-yes e 1 xs (omega arith)
      ∙ ap suc (ends_below-before (suc e) (suc code_point_limit) xs 1 r.2 (omega arith)))))))
]
