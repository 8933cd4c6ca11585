-- A splice of a list of boundaries, and what the set contains after it.
use mathlib.Core.Bool.{beq}
use Rattle.std.proofs.Common.{◌≡◌, ℕ, ◌+◌, ◌-◌, ◌%◌, ◌<◌, ◌≤◌, List, [], ◌∷◌, ◌++◌, length, set, get_or, take, drop, refl, ap, sym, ◌∙◌, arith, min, suc, add-one, nat_eq, Bool, true, false, cond, not, ◌&&◌, ◌⊎◌, inl, inr}
use Rattle.std.proofs.lemmas.Bool.{cases_lt, cases_eq, lt-ltb, le-ltb, le-leb, lt-leb, eq-eqb, ne_eqb, eqb-true}
use Rattle.std.proofs.Math.Seq.{set-append_seam, take-append-add, take-append_seam}
use Rattle.std.proofs.lemmas.List.{append_assoc, append-nil, drop_all, drop-append-le, length-append, length-take-le, length-drop, set-append_right, take-append-drop}
use Rattle.std.specs.List.{copy_within, splice}
use Rattle.icu_zerovec.specs.CodePoints.{code_point_limit}
use Rattle.icu_invlist.specs.InversionList.{holds, is_odd, between, IsValid}
use Rattle.icu_invlist.specs.Inside.Places.{IsFilled, Run, ends_below}
use Rattle.icu_invlist.proofs.RunLemmas.{ends_below-append, ends_below-before, ends_below-front, ends_below-past, ends_below-le, ends_below-yes, ends_below-no, run-append, run-front, run-back, ends_below-mono, ends_below-zero}
use Rattle.icu_invlist.proofs.Parity.{odd_same, odd_is, holds-ends_below}
use Rattle.icu_invlist.proofs.ValidLists.{run_from_valid, valid_from_run}

pub before_range : (s e c : ℕ) → c < s → between s e c ≡ false
before_range s e c h = rw (lt-leb s c h) refl

pub in_range : (s e c : ℕ) → s ≤ c → c < e → between s e c ≡ true
in_range s e c h k = rw (le-leb s c h, lt-ltb c e k) refl

pub past_range : (s e c : ℕ) → e ≤ c → between s e c ≡ false
past_range s e c h = elim (cases_lt c s) [ inl k ↦ before_range s e c k | inr k ↦ rw (le-leb s c k, le-ltb c e h) refl ]

-- The boundaries before index `below xs c`, and the others.
pub ends_below-split : (xs : List ℕ) (n c : ℕ) → ends_below xs c ≡ ends_below (take n xs) c + ends_below (drop n xs) c
ends_below-split xs n c = ap (λ (ys : List ℕ). ends_below ys c) (sym (take-append-drop n xs)) ∙ ends_below-append (take n xs) (drop n xs) c

pub length_front : (xs : List ℕ) (c : ℕ) → length (take (ends_below xs c) xs) ≡ ends_below xs c
length_front xs c = length-take-le (ends_below xs c) xs (ends_below-le xs c)

-- The list r in place of the boundaries from s to e.
abbrev pub spliced : List ℕ → ℕ → ℕ → List ℕ → List ℕ
spliced xs s e r = splice xs (ends_below xs s) (ends_below xs (suc e)) r

module _ (xs : List ℕ) (s e hi : ℕ) (r : List ℕ) (up : Run 0 hi xs) (less : s ≤ e) (within : e < hi) (inside : Run s (suc e) r) where
  pub spliced-run : Run 0 hi (spliced xs s e r)
  spliced-run = run-append 0 s hi (take (ends_below xs s) xs) (r ++ drop (ends_below xs (suc e)) xs) (omega arith) (omega arith)
      (run-front 0 hi s xs up)
      (run-append s (suc e) hi r (drop (ends_below xs (suc e)) xs) (omega arith) (omega arith) inside (run-back 0 hi (suc e) xs up))

  pub spliced-ends_below : (c : ℕ) → ends_below (spliced xs s e r) c
      ≡ ends_below (take (ends_below xs s) xs) c + (ends_below r c + ends_below (drop (ends_below xs (suc e)) xs) c)
  spliced-ends_below c = ends_below-append (take (ends_below xs s) xs) (r ++ drop (ends_below xs (suc e)) xs) c
      ∙ ap (λ (n : ℕ). ends_below (take (ends_below xs s) xs) c + n) (ends_below-append r (drop (ends_below xs (suc e)) xs) c)

  -- Nothing changes before the range.
  pub spliced-before : (c : ℕ) → c < s → ends_below (spliced xs s e r) (suc c) ≡ ends_below xs (suc c)
  spliced-before c h =
      let a = spliced-ends_below (suc c) in
      let b = ends_below-split xs (ends_below xs s) (suc c) in
      let d = ends_below-before s hi (drop (ends_below xs s) xs) (suc c) (run-back 0 hi s xs up) (omega arith) in
      let f = ends_below-before s (suc e) r (suc c) inside (omega arith) in
      let g = ends_below-before (suc e) hi (drop (ends_below xs (suc e)) xs) (suc c) (run-back 0 hi (suc e) xs up) (omega arith) in
      omega arith

  pub spliced-in : (c : ℕ) → s ≤ c → c < e → ends_below (spliced xs s e r) (suc c) ≡ ends_below xs s + ends_below r (suc c)
  spliced-in c h k =
      let a = spliced-ends_below (suc c) in
      let b = ends_below-past 0 s (take (ends_below xs s) xs) (suc c) (run-front 0 hi s xs up) (omega arith) in
      let d = length_front xs s in
      let g = ends_below-before (suc e) hi (drop (ends_below xs (suc e)) xs) (suc c) (run-back 0 hi (suc e) xs up) (omega arith) in
      omega arith

  pub spliced-past : (c : ℕ) → e ≤ c → ends_below (spliced xs s e r)
      (suc c) + ends_below xs (suc e) ≡ ends_below xs (suc c) + (ends_below xs s + length r)
  spliced-past c h =
      let a = spliced-ends_below (suc c) in
      let b = ends_below-past 0 s (take (ends_below xs s) xs) (suc c) (run-front 0 hi s xs up) (omega arith) in
      let d = length_front xs s in
      let f = ends_below-past s (suc e) r (suc c) inside (omega arith) in
      let p = ends_below-split xs (ends_below xs (suc e)) (suc c) in
      let q = ends_below-past 0 (suc e) (take (ends_below xs (suc e)) xs) (suc c) (run-front 0 hi (suc e) xs up) (omega arith) in
      let t = length_front xs (suc e) in
      omega arith

  pub spliced-length : length (spliced xs s e r) + ends_below xs (suc e) ≡ length xs + (ends_below xs s + length r)
  spliced-length =
      let a = length-append (take (ends_below xs s) xs) (r ++ drop (ends_below xs (suc e)) xs) in
      let b = length-append r (drop (ends_below xs (suc e)) xs) in
      let d = length_front xs s in
      let f = length-drop (ends_below xs (suc e)) xs in
      let g = ends_below-le xs (suc e) in
      omega arith

-- At most the two borders are left.
abbrev pub borders : Bool → Bool → ℕ → ℕ → List ℕ
borders f g s e = cond f (s ∷ []) [] ++ cond g (e ∷ []) []

borders-run : (f g : Bool) (s e : ℕ) → s < e → Run s (suc e) (borders f g s e)
borders-run true true s e h = (omega arith, omega arith, (omega arith, omega arith, tt))
borders-run true false s e h = (omega arith, omega arith, tt)
borders-run false true s e h = (omega arith, omega arith, tt)
borders-run false false s e h = tt

borders-length : (f g : Bool) (s e : ℕ) → length (borders f g s e) ≡ cond f 1 0 + cond g 1 0
borders-length true true s e = refl
borders-length true false s e = refl
borders-length false true s e = refl
borders-length false false s e = refl

borders-in : (f g : Bool) (s e c : ℕ) → s ≤ c → c < e → ends_below (borders f g s e) (suc c) ≡ cond f 1 0
borders-in true true s e c h k = rw (ends_below-yes s (suc c) (e ∷ []) (omega arith), ends_below-no e (suc c) [] (omega arith)) refl
borders-in true false s e c h k = ends_below-yes s (suc c) [] (omega arith)
borders-in false true s e c h k = ends_below-no e (suc c) [] (omega arith)
borders-in false false s e c h k = refl

module _ (xs : List ℕ) (s e : ℕ) (value f g : Bool) (valid : IsValid xs) (less : s < e) (within : e ≤ code_point_limit)
    (first : (ends_below xs s + cond f 1 0) % 2 ≡ cond value 1 0) (second : (ends_below xs (suc e) + cond g 1 0) % 2 ≡ cond value 1 0) where
  pub filled-valid : IsValid (spliced xs s e (borders f g s e))
  filled-valid = valid_from_run _ (spliced-run xs s e (suc code_point_limit) (borders f g s e) (run_from_valid xs valid) (omega arith)
      (omega arith) (borders-run f g s e less))
      (let a = spliced-length xs s e (suc code_point_limit) (borders f g s e) (run_from_valid xs valid) (omega arith) (omega arith)
      (borders-run f g s e less) in
      let b = borders-length f g s e in
      let d = valid.even in omega arith)

  pub filled-holds : IsFilled xs s e value (spliced xs s e (borders f g s e))
  filled-holds c = elim (cases_lt c s) [
    | inl h ↦ rw (before_range s e c h, holds-ends_below, holds-ends_below xs c)
        (ap is_odd (spliced-before xs s e (suc code_point_limit) (borders f g s e) (run_from_valid xs valid) (omega arith) (omega arith)
        (borders-run f g s e less) c h))
    | inr h ↦ elim (cases_lt c e) [
      | inl k ↦ rw (in_range s e c h k, holds-ends_below) (odd_is _ value
          (let a = spliced-in xs s e (suc code_point_limit) (borders f g s e) (run_from_valid xs valid) (omega arith) (omega arith)
          (borders-run f g s e less) c h k in
          let b = borders-in f g s e c h k in omega arith))
      | inr k ↦ rw (past_range s e c k, holds-ends_below, holds-ends_below xs c) (odd_same _ _
          (let a = spliced-past xs s e (suc code_point_limit) (borders f g s e) (run_from_valid xs valid) (omega arith) (omega arith)
          (borders-run f g s e less) c k in
          let b = borders-length f g s e in omega arith))
    ]
  ]

-- Whether a border is needed: after it, the number of boundaries has to be odd if and only if
-- membership is `value`.
abbrev pub needed : ℕ → Bool → Bool
needed n value = not (beq (nat_eq (n % 2) 1) value)

needed-parity : (n : ℕ) (value : Bool) → (n + cond (needed n value) 1 0) % 2 ≡ cond value 1 0
needed-parity n value = elim (cases_eq (n % 2) 1) [
  | inl h ↦ rw (eq-eqb (n % 2) 1 h) (by_value_odd n value h)
  | inr h ↦ rw (ne_eqb (n % 2) 1 h) (by_value_even n value h)
]
  where
    by_value_odd : (n : ℕ) (value : Bool) → n % 2 ≡ 1 → (n + cond (not (beq true value)) 1 0) % 2 ≡ cond value 1 0
    by_value_odd n true h = omega arith
    by_value_odd n false h = omega arith

    by_value_even : (n : ℕ) (value : Bool) → (n % 2 ≡ 1 → ⊥) → (n + cond (not (beq false value)) 1 0) % 2 ≡ cond value 1 0
    by_value_even n true h = omega arith
    by_value_even n false h = omega arith

pub filled : (xs ys : List ℕ) (i j s e : ℕ) (value f g : Bool) → IsValid xs → s < e → e ≤ code_point_limit → i ≡ ends_below xs s
    → j ≡ ends_below xs (e + 1)
    → f ≡ needed i value → g ≡ needed j value → ys ≡ splice xs i j (borders f g s e) → IsValid ys × IsFilled xs s e value ys
filled xs ys i j s e value f g v h l a b p q y = rw (y, p, q, a, b, add-one) (
  filled-valid xs s e value _ _ v h l (needed-parity _ value) (needed-parity _ value),
  filled-holds xs s e value _ _ v h l (needed-parity _ value) (needed-parity _ value),
)

room_for : (i j : ℕ) (value f g : Bool) → i ≤ j → (i + cond f 1 0) % 2 ≡ cond value 1 0 → (j + cond g 1 0) % 2 ≡ cond value 1 0
    → (f ≡ true → g ≡ true → i ≡ j → ⊥) → i + (cond f 1 0 + cond g 1 0) ≤ j
room_for i j value true true h a b n = elim (cases_eq i j) [ inl e ↦ absurd (n refl refl e) | inr e ↦ omega arith ]
room_for i j value true false h a b n = elim (cases_eq i j) [ inl e ↦ omega arith | inr e ↦ omega arith ]
room_for i j value false true h a b n = omega arith
room_for i j value false false h a b n = omega arith

pub room : (xs : List ℕ) (i j s e : ℕ) (value : Bool) → s < e → i ≡ ends_below xs s → j ≡ ends_below xs (e + 1)
    → (needed i value ≡ true → needed j value ≡ true → i ≡ j → ⊥) → i + (cond (needed i value) 1 0 + cond (needed j value) 1 0) ≤ j
room xs i j s e value h a b n = room_for i j value _ _ (let k = ends_below-mono xs s (e + 1) (omega arith) in omega arith)
    (needed-parity i value) (needed-parity j value) n

pub plain : (n : ℕ) → nat_eq (n % 2) 1 ≡ needed n false
plain n = same_flag (nat_eq (n % 2) 1)
  where
    same_flag : (b : Bool) → b ≡ not (beq b false)
    same_flag true = refl
    same_flag false = refl

pub side_room : (xs : List ℕ) (i j s e : ℕ) → IsValid xs → s < e → e ≤ code_point_limit → i ≡ ends_below xs s → j ≡ ends_below xs (e + 1)
    → ((s ≡ 0) ⊎ (e ≡ code_point_limit))
    → i + (cond (nat_eq (i % 2) 1) 1 0 + cond (nat_eq (j % 2) 1) 1 0) ≤ j
side_room xs i j s e v h w a b side = rw (plain i, plain j) (room xs i j s e false h a b (λ p q r.
    let x = eqb-true _ _ (plain i ∙ p) in let y = eqb-true _ _ (plain j ∙ q) in elim side [
      | inl z ↦ absurd (let t : i ≡ 0 = a ∙ rw z (ends_below-zero xs) in omega arith)
      | inr z ↦
          absurd (let t : j ≡ length xs = b ∙ ends_below-past 0 (suc code_point_limit) xs (e + 1) (run_from_valid xs v) (omega arith) in
          let u = v.even in omega arith)
    ]))

pub emptied : (xs : List ℕ) (s e last c : ℕ) → last ≡ min e code_point_limit → last ≤ s → c < code_point_limit
    → holds [] c ≡ (holds xs c && between s e c)
emptied xs s e last c l h k = let n : between s e c ≡ false =
    elim (cases_lt c s) [ inl a ↦ before_range s e c a | inr a ↦ past_range s e c (omega arith) ] in
    holds-ends_below [] c ∙ rw n (sym (and_no (holds xs c)))
  where
    and_no : (b : Bool) → (b && false) ≡ false
    and_no true = refl
    and_no false = refl

-- ---- two boundaries inserted
two_first : (ys : List ℕ) → 2 ≤ length ys → (a : ℕ) × (b : ℕ) × (take 2 ys ≡ a ∷ b ∷ [])
two_first [] h = absurd (omega arith)
two_first (a ∷ []) h = absurd (omega arith)
two_first (a ∷ b ∷ ys) h = (a, b, refl)

-- The list grows by two, the boundaries from index p on move there, and two are written at p.
pub two_put_in : (xs zs : List ℕ) (p n s e : ℕ) → n ≡ length xs → p ≤ n → length zs ≡ 2
    → set (set (copy_within (xs ++ zs) p n (p + 2)) p s) (p + 1) e ≡ splice xs p p (s ∷ e ∷ [])
two_put_in xs zs p n s e pn h two =
    let front = take p xs in
    let back = drop p xs in
    let f : length front ≡ p = length-take-le p xs (omega arith) in
    let whole : xs ++ zs ≡ front ++ (back ++ zs) = ap (λ (ys : List ℕ). ys ++ zs) (sym (take-append-drop p xs))
    ∙ append_assoc front back zs in
    let w = two_first (back ++ zs) (omega (arith, length-append back zs)) in
    let t : take (p + 2) (xs ++ zs) ≡ front ++ w.0 ∷ w.1 ∷ [] =
    ap (take (p + 2)) whole ∙ ((rw f at (take-append-add front (back ++ zs) 2)) ∙ ap (λ (ys : List ℕ). front ++ ys) w.2) in
    let k : n - p ≡ length back = omega (arith, length-drop p xs) in
    let m : take (n - p) (drop p (xs ++ zs)) ≡ back = rw (drop-append-le p xs zs (omega arith), k) (take-append_seam back zs) in
    let l : drop ((p + 2) + (n - p)) (xs ++ zs) ≡ [] = drop_all ((p + 2) + (n - p)) (xs ++ zs) (omega (arith, length-append xs zs)) in
    let moved : copy_within (xs ++ zs) p n (p + 2) ≡ front ++ w.0 ∷ w.1 ∷ back =
    rw (t, m, l, append-nil ((front ++ w.0 ∷ w.1 ∷ []) ++ back), append_assoc front (w.0 ∷ w.1 ∷ []) back) refl in
    let one : (p + 1) - p ≡ 1 = omega arith in
    let first : set (front ++ w.0 ∷ w.1 ∷ back) p s ≡ front ++ s ∷ w.1 ∷ back = rw f at (set-append_seam front w.0 (w.1 ∷ back) s) in
    let second : set (front ++ s ∷ w.1 ∷ back) (p + 1) e ≡ front ++ set (s ∷ w.1 ∷ back) ((p + 1) - p) e =
    set-append_right front (s ∷ w.1 ∷ back) p (p + 1) e f (omega arith) in
    rw (moved, first, second, one) refl

-- The count does not change if the next boundary is not below.
pub stays_below : (hi : ℕ) (xs : List ℕ) (i c : ℕ) → Run 0 hi xs → i ≤ ends_below xs c → c ≤ get_or xs i 0 → i ≡ ends_below xs c
stays_below hi xs i c r h k = elim (cases_lt i (ends_below xs c)) [
  | inl l ↦ absurd (let f = ends_below-front 0 hi c xs r i l in omega arith)
  | inr l ↦ omega arith
]
