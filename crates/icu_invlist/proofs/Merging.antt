-- The merge of two lists of boundaries.
use Rattle.std.proofs.Common.{◌≡◌, ℕ, ◌+◌, ◌-◌, ◌%◌, ◌<◌, ◌≤◌, List, [], ◌++◌, length, take, drop, get_or, refl, ap, sym, ◌∙◌, subst, arith, suc, Bool, true, false, not, inl, inr}
use Rattle.std.specs.Prelude.{if◌then◌else◌, ◌⊎◌}
use Rattle.std.proofs.Math.Bool.{not-not}
use Rattle.std.proofs.lemmas.Bool.{cases_lt, cases_Bool, cond-true, cond-false, eq-eqb, ne_eqb, eqb-true, eqb-false}
use Rattle.std.proofs.lemmas.List.{append-nil, drop_all, length-append, length-drop, length-take-le, take-append-drop, take_all}
use Rattle.icu_zerovec.specs.CodePoints.{code_point_limit}
use Rattle.icu_invlist.specs.InversionList.{holds, is_odd, IsValid, Acts}
use Rattle.icu_invlist.specs.Inside.Merging.{Merging, Merged, MovesOver, StandBefore}
use Rattle.icu_invlist.specs.Inside.Places.{Run, ends_below}
use mathlib.Core.Bool.{beq}
use Rattle.icu_invlist.proofs.RunLemmas.{ends_below-append, ends_below-before, ends_below-past, ends_below-mono, ends_below-le, ends_below-zero, run-append, run-wider, run-front, run-back}
use Rattle.icu_invlist.proofs.PlaceLemmas.{all_below, least_at, stays_at, moves_over, stays_over}
use Rattle.icu_invlist.proofs.EqualSets.{parity}
use Rattle.icu_invlist.proofs.Toggles.{odd_next}
use Rattle.icu_invlist.proofs.Parity.{holds-ends_below, holds-nil, odd_same}
use Rattle.icu_invlist.proofs.ValidLists.{valid_from_run, run_from_valid}

pub none_yet : (f : Bool → Bool → Bool) (a b : List ℕ) → f false false ≡ false → Merging f a b [] 0 0 0
none_yet f a b e = record {
  first = sym (ends_below-zero a);
  second = sym (ends_below-zero b);
  run = tt;
  small = omega arith;
  parity = sym e;
  set = λ c h. absurd (omega arith);
}

module _ (f : Bool → Bool → Bool) (a b out r : List ℕ) (passed i j n p q : ℕ) (m : Merging f a b out passed i j)
    (after : passed ≤ n) (within : n ≤ code_point_limit) (ia : i ≡ ends_below a n) (jb : j ≡ ends_below b n) (pa : p ≡ ends_below a (suc n))
    (qb : q ≡ ends_below b (suc n))
    (inside : Run n (suc n) r) (odd : is_odd (length (out ++ r)) ≡ f (is_odd p) (is_odd q)) where
  grown-run : Run 0 (suc n) (out ++ r)
  grown-run = run-append 0 n (suc n) out r (omega arith) (omega arith) (run-wider 0 passed 0 n out (omega arith) after m.run) inside

  out_at : (c : ℕ) → c < n → holds (out ++ r) c ≡ holds out c
  out_at c h = rw (holds-ends_below, holds-ends_below out c) (ap is_odd
      (let e = ends_below-append out r (suc c) in let k = ends_below-before n (suc n) r (suc c) inside (omega arith) in omega arith))

  set_at : (c : ℕ) → c < suc n → holds (out ++ r) c ≡ f (holds a c) (holds b c)
  set_at c h = elim (cases_lt c passed) [
    | inl k ↦ out_at c (omega arith) ∙ m.set c k
    | inr k ↦ elim (cases_lt c n) [
      | inl l ↦ out_at c l ∙ (rw (holds-ends_below out c, holds-ends_below a c, holds-ends_below b c)
          (let x : ends_below out (suc c) ≡ length out = ends_below-past 0 passed out (suc c) m.run (omega arith) in
          let y : ends_below a (suc c) ≡ i = (let s = ends_below-mono a passed (suc c) (omega arith) in
          let t = ends_below-mono a (suc c) n (omega arith) in let u = m.first in omega arith) in
          let z : ends_below b (suc c) ≡ j = (let s = ends_below-mono b passed (suc c) (omega arith) in
          let t = ends_below-mono b (suc c) n (omega arith) in let u = m.second in omega arith) in
          rw (x, y, z) m.parity))
      | inr l ↦ rw (holds-ends_below (out ++ r) c, holds-ends_below a c, holds-ends_below b c)
          (let e : c ≡ n = omega arith in
          rw (e, ← pa, ← qb, ends_below-past 0 (suc n) (out ++ r) (suc n) grown-run (omega arith)) odd)
    ]
  ]

  merged_more : Merging f a b (out ++ r) (suc n) p q
  merged_more = record { first = pa; second = qb; run = grown-run; small = omega arith; parity = odd; set = set_at }

-- A list with i boundaries below `passed`, when the merge passes a boundary n that is not below
-- `passed`.
over : (xs : List ℕ) (i passed n p : ℕ) → IsValid xs → i ≡ ends_below xs passed → i < length xs → passed ≤ n → MovesOver n xs i p
    → (i ≡ ends_below xs n) × (p ≡ ends_below xs (suc n))
over xs i passed n p v e h l o =
    let s : i ≡ ends_below xs n = stays_at xs i passed n v e l (λ _. o.least) in (
      s,
      elim o.place [
        | inl k ↦ k.1 ∙ moves_over xs i n v s h k.0
        | inr k ↦ k.1 ∙ stays_over xs i n v s (λ _ u. omega (arith, k.0))
      ],
    )

-- One step: the boundary n is written if membership in the result changes there.
pub merged_step : (f : Bool → Bool → Bool) (a b out r : List ℕ) (passed i j n p q : ℕ) → Merging f a b out passed i j → IsValid a
    → IsValid b
    → i < length a → j < length b → MovesOver n a i p → MovesOver n b j q → i + j < p + q
    → Run n (suc n) r → is_odd (length (out ++ r)) ≡ f (is_odd p) (is_odd q) → Merging f a b (out ++ r) (suc n) p q
merged_step f a b out r passed i j n p q m v w hi hj s t on inside odd =
    let after : passed ≤ n = elim s.place [
      | inl x ↦ (let l = least_at a i passed v m.first hi in omega (arith, x.0))
      | inr x ↦ elim t.place [
        | inl y ↦ (let l = least_at b j passed w m.second hj in omega (arith, y.0))
        | inr y ↦ absurd (omega (arith, x.1, y.1))
      ]
    ] in
    let within : n ≤ code_point_limit = (let l = v.within i 0 hi in omega (arith, s.least)) in
    let x = over a i passed n p v m.first hi after s in
    let y = over b j passed n q w m.second hj after t in
    merged_more f a b out r passed i j n p q m after within x.0 y.0 x.1 y.1 inside odd

-- The parity after one more boundary.
pub odd_more : (n : ℕ) (v : Bool) → is_odd n ≡ not v → is_odd (n + 1) ≡ v
odd_more n true h = eq-eqb _ _ (let k = eqb-false _ _ h in omega arith)
odd_more n false h = ne_eqb _ _ (λ u. let k = eqb-true _ _ h in omega arith)

pub moves_within : (n : ℕ) (xs : List ℕ) (i p : ℕ) → MovesOver n xs i p → i < length xs → p ≤ length xs
moves_within n xs i p o h = elim o.place [ inl k ↦ omega (arith, k.1) | inr k ↦ omega (arith, k.1) ]

exchanged_differ : (x y : Bool) → not (beq x y) ≡ not (beq y x)
exchanged_differ true true = refl
exchanged_differ true false = refl
exchanged_differ false true = refl
exchanged_differ false false = refl

-- Membership in the result changes at a boundary of one set if and only if it depends on that set
-- there.
pub turned : (f : Bool → Bool) (i : ℕ) → not (beq (f (is_odd (i + 1))) (f (is_odd i))) ≡ not (beq (f true) (f false))
turned f i = elim (cases_Bool (is_odd i)) [
  | inl h ↦ rw (h, odd_more i false h) (exchanged_differ (f false) (f true))
  | inr h ↦ rw (h, odd_more i true h) refl
]

-- At a boundary of both sets, membership in the result changes if it differs between in both and in
-- neither, or between in one and in the other.
abbrev pub TurnsAtBoth : (Bool → Bool → Bool) → Bool → Bool → Bool
TurnsAtBoth f x y = not (beq (f x y) (f (not x) (not y)))

pub turned_both : (f : Bool → Bool → Bool) (i j : ℕ)
    → not (beq (f (is_odd (i + 1)) (is_odd (j + 1))) (f (is_odd i) (is_odd j))) ≡ TurnsAtBoth f (is_odd i) (is_odd j)
turned_both f i j = rw (odd_next i, odd_next j) (exchanged_differ (f (not (is_odd i)) (not (is_odd j))) (f (is_odd i) (is_odd j)))

pub turned_next : (f : Bool → Bool → Bool) (i j : ℕ) → TurnsAtBoth f (is_odd i) (is_odd j) ≡ TurnsAtBoth f (is_odd (i + 1)) (is_odd (j + 1))
turned_next f i j = rw (odd_next i, odd_next j, not-not (is_odd i), not-not (is_odd j))
    (exchanged_differ (f (is_odd i) (is_odd j)) (f (not (is_odd i)) (not (is_odd j))))

-- The boundaries of the first list up to the next of the second, then the common ones, then those
-- of the second up to the next of the first: at least one is passed.
pub some_passed : (a b : List ℕ) (i j p q s t : ℕ) → i < length a → j < length b → i ≤ p → (p < length a → get_or b j 0 ≤ get_or a p 0)
    → p ≤ q → j ≤ s
    → (q < length a → s < length b → get_or a q 0 ≡ get_or b s 0 → ⊥) → s ≤ t → (t < length b → get_or a q 0 ≤ get_or b t 0) → i + j < q + t
some_passed a b i j p q s t hi hj ip first pq js both st second = elim (cases_lt (i + j) (q + t)) [
  | inl h ↦ h
  | inr h ↦
      let ep : p ≡ i = omega arith in
      let eq : q ≡ i = omega arith in
      let es : s ≡ j = omega arith in
      let et : t ≡ j = omega arith in
      let x : get_or b j 0 ≤ get_or a i 0 = rw ep at first hi in
      let y : get_or a i 0 ≤ get_or b j 0 = rw (eq, et) at second hj in
      let z : get_or a i 0 ≡ get_or b j 0 → ⊥ = rw (eq, es) at both hi hj in
      absurd (z (omega arith))
]

is_even : (xs : List ℕ) (n : ℕ) → IsValid xs → n ≡ length xs → is_odd n ≡ false
is_even xs n v e = rw e (ne_eqb _ _ (λ k. let t = v.even in omega arith))

-- After all boundaries of a list, its set contains nothing.
holds_none : (xs : List ℕ) (i passed c : ℕ) → IsValid xs → i ≡ ends_below xs passed → i ≡ length xs → passed ≤ c → holds xs c ≡ false
holds_none xs i passed c v e h l = holds-ends_below xs c ∙ is_even xs (ends_below xs (suc c)) v
    (let s = ends_below-mono xs passed (suc c) (omega arith) in let t = ends_below-le xs (suc c) in omega arith)

-- The second list is used up, and the operation drops the rest of the first.
rest_left : (f : Bool → Bool → Bool) (a b out : List ℕ) (passed i j : ℕ) → Merging f a b out passed i j → IsValid a → IsValid b
    → j ≡ length b
    → ((x : Bool) → f x false ≡ false) → IsValid out × Acts f a (holds b) out
rest_left f a b out passed i j m v w e none =
    let eo : is_odd (length out) ≡ false = m.parity ∙ rw (is_even b j w e) (none (is_odd i)) in (
      valid_from_run out (run-wider 0 passed 0 (suc code_point_limit) out (omega arith) m.small m.run) (even_from out eo),
      λ c l. elim (cases_lt c passed) [
        | inl p ↦ m.set c p
        | inr p ↦ rw (holds_none b j passed c w m.second e p, none (holds a c))
            (holds-ends_below out c ∙ rw (ends_below-past 0 passed out (suc c) m.run (omega arith)) eo)
      ],
    )
  where
    even_from : (xs : List ℕ) → is_odd (length xs) ≡ false → length xs % 2 ≡ 0
    even_from xs h = let k = eqb-false _ _ h in omega arith

-- The second list is used up, and the operation copies the rest of the first.
rest_kept : (f : Bool → Bool → Bool) (a b out : List ℕ) (passed i j : ℕ) → Merging f a b out passed i j → IsValid a → IsValid b
    → j ≡ length b
    → ((x : Bool) → f x false ≡ x) → IsValid (out ++ drop i a) × Acts f a (holds b) (out ++ drop i a)
rest_kept f a b out passed i j m v w e keep =
    let r = run_from_valid a v in
    let k = m.first in
    let back : Run passed (suc code_point_limit) (drop i a) = rw k (run-back 0 (suc code_point_limit) passed a r) in
    let front : Run 0 passed (take i a) = rw k (run-front 0 (suc code_point_limit) passed a r) in
    let il : i ≤ length a = (let t = ends_below-le a passed in omega arith) in
    let lt : length (take i a) ≡ i = length-take-le i a il in
    let ld : length (drop i a) + i ≡ length a = (let t = length-drop i a in omega arith) in
    let po : length out % 2 ≡ i % 2 = parity _ _ (m.parity ∙ rw (is_even b j w e) (keep (is_odd i))) in
    let lo = length-append out (drop i a) in
    let whole : Run 0 (suc code_point_limit) (out ++ drop i a) =
    run-append 0 passed (suc code_point_limit) out (drop i a) (omega arith) m.small m.run back in (
      valid_from_run (out ++ drop i a) whole (let t = v.even in omega arith),
      λ c l. elim (cases_lt c passed) [
        | inl p ↦ rw (holds-ends_below (out ++ drop i a) c) (ap is_odd
            (let s = ends_below-append out (drop i a) (suc c) in
            let t = ends_below-before passed (suc code_point_limit) (drop i a) (suc c) back (omega arith) in
            let z : ends_below (out ++ drop i a) (suc c) ≡ ends_below out (suc c) = omega arith in z)
            ∙ (sym (holds-ends_below out c) ∙ m.set c p))
        | inr p ↦ rw (holds_none b j passed c w m.second e p, keep (holds a c), holds-ends_below (out ++ drop i a) c, holds-ends_below a c)
            (odd_same _ _
            (let s = ends_below-append out (drop i a) (suc c) in
            let t = ends_below-past 0 passed out (suc c) m.run (omega arith) in
            let u : ends_below a (suc c) ≡ ends_below (take i a) (suc c) + ends_below (drop i a) (suc c) =
            subst (λ (xs : List ℕ). ends_below xs (suc c) ≡ ends_below (take i a) (suc c) + ends_below (drop i a) (suc c))
            (take-append-drop i a) (ends_below-append (take i a) (drop i a) (suc c)) in
            let x = ends_below-past 0 passed (take i a) (suc c) front (omega arith) in omega arith))
      ],
    )

-- An operation with its two sets exchanged.
exchanged : (f : Bool → Bool → Bool) (a b out : List ℕ) (passed i j : ℕ) → Merging f a b out passed i j
    → Merging (λ x y. f y x) b a out passed j i
exchanged f a b out passed i j m = record {
  first = m.second;
  second = m.first;
  run = m.run;
  small = m.small;
  parity = m.parity;
  set =
      m.set;
}

keeps : (f : Bool → Bool) → f false ≡ false → f true ≡ true → (x : Bool) → f x ≡ x
keeps f n h false = n
keeps f n h true = h

leaves : (f : Bool → Bool) → f false ≡ false → f true ≡ false → (x : Bool) → f x ≡ false
leaves f n h false = n
leaves f n h true = h

-- The second list is used up.
after_second : (f : Bool → Bool → Bool) (a b out : List ℕ) (i j p : ℕ) → f false false ≡ false → Merged f a b out i j → IsValid a
    → IsValid b → i ≤ length a → j ≡ length b
    → p ≡ (if f true false then i else length a) → IsValid (out ++ drop p a) × Acts f a (holds b) (out ++ drop p a)
after_second f a b out i j p none m v w h e k = elim (cases_Bool (f true false)) [
  | inl t ↦ rw (k ∙ cond-true _ _ _ t) (rest_kept f a b out m.passed i j m.so_far v w e (keeps (λ x. f x false) none t))
  | inr t ↦ rw (k ∙ cond-false _ _ _ t, drop_all (length a) a (omega arith), append-nil out)
      (rest_left f a b out m.passed i j m.so_far v w e (leaves (λ x. f x false) none t))
]

same_cond : (t : Bool) (x y : ℕ) → x ≡ y → (if t then x else y) ≡ y
same_cond true x y e = e
same_cond false x y e = refl

-- One of the lists is used up, and the rest of either is appended if it is wanted.
pub rests : (f : Bool → Bool → Bool) (a b out : List ℕ) (i j p q : ℕ) → f false false ≡ false → Merged f a b out i j → IsValid a → IsValid b
    → i ≤ length a → j ≤ length b
    → (i ≡ length a) ⊎ (j ≡ length b)
    → p ≡ (if f true false then i else length a) → q ≡ (if f false true then j else length b)
    → IsValid ((out ++ drop p a) ++ drop q b) × Acts f a (holds b) ((out ++ drop p a) ++ drop q b)
rests f a b out i j p q none m v w x y (inl h) k l =
    let z : p ≡ length a = k ∙ same_cond (f true false) i (length a) h in
    rw (z, drop_all (length a) a (omega arith), append-nil out)
    (after_second (λ x y. f y x) b a out j i q none (record { passed = m.passed; so_far = exchanged f a b out m.passed i j m.so_far }) w v y
    h l)
rests f a b out i j p q none m v w x y (inr h) k l =
    let z : q ≡ length b = l ∙ same_cond (f false true) j (length b) h in
    rw (z, drop_all (length b) b (omega arith), append-nil (out ++ drop p a))
    (after_second f a b out i j p none m v w x h k)

-- ---- sets whose boundaries do not interleave
-- Before its first boundary, the second list contains nothing.
second_none : (a b : List ℕ) (s : StandBefore a b) (c : ℕ) → c < s.end → holds b c ≡ false
second_none a b s c h = holds-ends_below b c
    ∙ ap is_odd (let k = ends_below-mono b (suc c) s.end (omega arith) in let n = s.second in
    let z : ends_below b (suc c) ≡ 0 = omega arith in z)

-- All boundaries of the first list are passed and none of the second. The operation keeps the first
-- set or drops it.
stood : (f : Bool → Bool → Bool) (a b out : List ℕ) → f false false ≡ false → IsValid a → (s : StandBefore a b)
    → (f true false ≡ true) × (out ≡ a) ⊎ (f true false ≡ false) × (out ≡ [])
    → Merging f a b out s.end (length a) 0
stood f a b out none v s (inl (t, e)) = rw e (record {
  first = s.first;
  second = s.second;
  run = whole_front;
  small = s.within;
  parity = is_even a (length a) v refl ∙ (sym none ∙ ap (λ x. f x false) (sym (is_even a (length a) v refl)));
  set = λ c h. sym (ap (f (holds a c)) (second_none a b s c h) ∙ keeps (λ x. f x false) none t (holds a c));
})
  where
    whole_front : Run 0 s.end a
    whole_front = let front : Run 0 s.end (take (length a) a) =
        rw s.first (run-front 0 (suc code_point_limit) s.end a (run_from_valid a v)) in
        subst (λ (xs : List ℕ). Run 0 s.end xs) (take_all (length a) a (omega arith)) front
stood f a b out none v s (inr (t, e)) = rw e (record {
  first = s.first;
  second = s.second;
  run = tt;
  small = s.within;
  parity = sym none ∙ ap (λ x. f x false) (sym (is_even a (length a) v refl));
  set = λ c h. holds-nil c ∙ sym (ap (f (holds a c)) (second_none a b s c h) ∙ leaves (λ x. f x false) none t (holds a c));
})

-- The operation keeps both.
pub stood_both : (f : Bool → Bool → Bool) (a b : List ℕ) → f false false ≡ false → IsValid a → IsValid b → StandBefore a b
    → f true false ≡ true → f false true ≡ true
    → IsValid (a ++ b) × Acts f a (holds b) (a ++ b)
stood_both f a b none v w s t u =
    let m = stood f a b a none v s (inl (t, refl)) in
    let all = rests f a b a (length a) 0 (length a) 0 none (record { passed = s.end; so_far = m }) v w (omega arith) (omega arith)
    (inl refl)
    (sym (cond-true _ _ _ t)) (sym (cond-true _ _ _ u)) in
    rw (drop_all (length a) a (omega arith), append-nil a) at all

-- The operation drops the second set.
pub stood_first : (f : Bool → Bool → Bool) (a b out : List ℕ) → f false false ≡ false → IsValid a → IsValid b → StandBefore a b
    → f false true ≡ false → out ≡ (if f true false then a else [])
    → IsValid out × Acts f a (holds b) out
stood_first f a b out none v w s u e =
    let o : (f true false ≡ true) × (out ≡ a) ⊎ (f true false ≡ false) × (out ≡ []) =
    elim (cases_Bool (f true false)) [ inl t ↦ inl (t, e ∙ cond-true _ _ _ t) | inr t ↦ inr (t, e ∙ cond-false _ _ _ t) ] in
    let m = stood f a b out none v s o in
    let all = rests f a b out (length a) 0 (length a) (length b) none (record { passed = s.end; so_far = m }) v w (omega arith)
    (omega arith) (inl refl)
    (sym (same_cond (f true false) (length a) (length a) refl)) (sym (cond-false _ _ _ u)) in
    rw (drop_all (length a) a (omega arith), append-nil out, drop_all (length b) b (omega arith), append-nil out) at all

-- The operation drops the second set, whose boundaries are below those of the first.
pub stood_second : (f : Bool → Bool → Bool) (a b out : List ℕ) → f false false ≡ false → IsValid a → IsValid b → StandBefore b a
    → f false true ≡ false → out ≡ (if f true false then a else [])
    → IsValid out × Acts f a (holds b) out
stood_second f a b out none v w s u e =
    let m = stood (λ x y. f y x) b a [] none w s (inr (u, refl)) in
    let all = rests f a b [] 0 (length b) (if f true false then 0 else length a)
    (length b) none (record { passed = s.end; so_far = exchanged (λ x y. f y x) b a [] s.end (length b) 0 m }) v w (omega arith)
    (omega arith) (inr refl)
    refl (sym (same_cond (f false true) (length b) (length b) refl)) in
    elim (cases_Bool (f true false)) [
      | inl t ↦
          rw (e ∙ cond-true _ _ _ t)
          (rw (drop_all (length b) b (omega arith), append-nil (drop (if f true false then 0 else length a) a), cond-true _ _ _ t) at all)
      | inr t ↦
          rw (e ∙ cond-false _ _ _ t)
          (rw (
            drop_all (length b) b (omega arith),
            append-nil (drop (if f true false then 0 else length a) a),
            cond-false _ _ _ t,
            drop_all (length a) a (omega arith),
          ) at all)
    ]

-- All boundaries of one list are below those of the other if its last one is below the first of the
-- other.
pub stand_by_ends : (a b : List ℕ) (n : ℕ) → IsValid a → IsValid b → n ≡ length a → 0 < n → 0 < length b → get_or a (n - 1) 0 < get_or b 0 0
    → StandBefore a b
stand_by_ends a b n v w e some least h = record {
  end = get_or b 0 0;
  within = (let k = w.within 0 0 least in omega arith);
  first = sym e ∙ all_below a n (get_or b 0 0) (run_from_valid a v) e some h;
  second = stays_at b 0 0 (get_or b 0 0) w (sym (ends_below-zero b)) (omega arith) (λ _. omega arith);
}

pub stand_of_none : (a b : List ℕ) → length a ≡ 0 → StandBefore a b
stand_of_none a b e = record { end = 0; within = omega arith; first = e ∙ sym (ends_below-zero a); second = sym (ends_below-zero b) }

pub stand_before_none : (a b : List ℕ) → IsValid a → length b ≡ 0 → StandBefore a b
stand_before_none a b v e = record {
  end = suc code_point_limit;
  within = omega arith;
  first = sym (ends_below-past 0 (suc code_point_limit) a (suc code_point_limit) (run_from_valid a v) (omega arith));
  second = (let k = ends_below-le b (suc code_point_limit) in omega arith);
}
