-- A number among the boundaries of a set: whether the set contains it, and how many members are
-- below it.
use Rattle.std.proofs.Common.{◌≡◌, ◌∙◌, refl, sym, ap, ℕ, zero, suc, ◌+◌, ◌-◌, ◌%◌, ◌<◌, ◌≤◌, Bool, true, false, cond, List, length, take, drop, get_or, arith, inl, inr}
use Rattle.std.specs.Prelude.{nat_le}
use Rattle.std.specs.List.{AllWithin}
use Rattle.std.proofs.lemmas.Bool.{cases_lt, cases_eq, both_ways, eq-eqb, eqb-true, le-leb, leb-false, leb-true, lt-leb, ne_eqb}
use Rattle.std.proofs.lemmas.Grind.{get_or_default_zero}
use Rattle.std.proofs.lemmas.List.{get_or-drop, get_or-take, length-drop, length-take-le}
use Rattle.std.specs.List.Sorted.{IsStrictlyIncreasing}
use Rattle.icu_zerovec.specs.CodePoints.{code_point_limit}
use Rattle.icu_invlist.specs.InversionList.{HoldsAll, IsSubset, IsValid, ends_up_to, holds, is_odd, members_below}
use Rattle.icu_invlist.proofs.CallerLemmas.{fewer_below}
use Rattle.icu_collections_c.specs.Inside.SetPlaces.{Gap, IsPlaceFrom}
use Rattle.icu_collections_c.specs.SetQueries.{GivesIndex, GivesNth}
use Rattle.icu_frozen_sets.proofs.CallerLemmas.{IsNonDecreasingBy-strictly, count-at, members_below-le}

-- ---- whether a set contains a number
pub odd : (n : ℕ) → n % 2 ≡ 1 → is_odd n ≡ true
odd n h = eq-eqb _ _ h

pub even : (n : ℕ) → n % 2 ≡ 0 → is_odd n ≡ false
even n h = ne_eqb _ _ (λ e. omega arith)

pub is-odd : (n : ℕ) → is_odd n ≡ true → n % 2 ≡ 1
is-odd n h = eqb-true _ _ h

-- If the boundaries before index i are at most c, and the one at i is above c, i is odd if the set
-- contains c.
pub holds_at : (xs : List ℕ) (i c : ℕ) → IsValid xs → i ≤ length xs → (0 < i → get_or xs (i - 1) 0 ≤ c)
    → (i < length xs → c < get_or xs i 0) → holds xs c ≡ is_odd i
unfolding ends_up_to
holds_at xs i c v l before next = ap is_odd (count-at (λ e. nat_le e c) xs i passed failed l)
  where
    passed : AllWithin (λ y. nat_le y c ≡ true) xs 0 i
    passed k d a h =
        let r = IsNonDecreasingBy-strictly xs v.ascending k (i - 1) 0 (omega arith) (omega arith) in
        let b = before (omega arith) in
        rw (get_or_default_zero xs k d (omega arith)) (le-leb _ _ (omega arith))

    failed : AllWithin (λ y. nat_le y c ≡ false) xs i (length xs)
    failed k d a h =
        let r = IsNonDecreasingBy-strictly xs v.ascending i k 0 a h in
        let b = next (omega arith) in
        rw (get_or_default_zero xs k d h) (lt-leb _ _ (omega arith))

-- The boundaries before the first one above c are at most c.
pub before_place : (xs : List ℕ) (c place : ℕ) → IsPlaceFrom xs 0 c place → 0 < place → get_or xs (place - 1) 0 ≤ c
before_place xs c place p h = p.passed (place - 1) (omega arith) (omega arith)

pub holds_by_place : (xs : List ℕ) (c place : ℕ) → IsValid xs → IsPlaceFrom xs 0 c place → holds xs c ≡ is_odd place
holds_by_place xs c place v p = holds_at xs place c v p.within (before_place xs c place p) p.next

-- All boundaries are at most c if the last one is.
pub place_last : (xs : List ℕ) (c : ℕ) → IsStrictlyIncreasing xs → 0 < length xs → get_or xs (length xs - 1) 0 ≤ c
    → IsPlaceFrom xs 0 c (length xs)
place_last xs c up some last = record {
  least = omega arith;
  within = omega arith;
  passed = λ k a b. (let r = IsNonDecreasingBy-strictly xs up k (length xs - 1) 0 (omega arith) (omega arith) in omega arith);
  next = λ h. absurd (omega arith);
}

-- The boundaries that are at most c come first.
pub place_at_point : (xs : List ℕ) (c place : ℕ) → AllWithin (λ y. nat_le y c ≡ true) xs 0 place
    → AllWithin (λ y. nat_le y c ≡ false) xs place (length xs) → place ≤ length xs → IsPlaceFrom xs 0 c place
place_at_point xs c place passed failed within = record {
  least = omega arith;
  within = within;
  passed = λ k a b. leb-true _ _ (passed k 0 (omega arith) b);
  next = λ h. leb-false _ _ (failed place 0 (omega arith) h);
}

-- ---- a search in a part of the boundaries
part_at : (xs : List ℕ) (low n k : ℕ) → k < n → get_or (take n (drop low xs)) k 0 ≡ get_or xs (low + k) 0
part_at xs low n k l = get_or-take n (drop low xs) k 0 l ∙ get_or-drop low xs k 0

pub part_ascends : (xs : List ℕ) (low n : ℕ) → IsStrictlyIncreasing xs → low + n ≤ length xs → IsStrictlyIncreasing (take n (drop low xs))
part_ascends xs low n up room k h =
    let long : length (take n (drop low xs)) ≡ n = length-take-le n (drop low xs) (omega (arith, length-drop low xs)) in
    let first = part_at xs low n k (omega arith) in
    let second = part_at xs low n (k + 1) (omega arith) in
    let same : low + (k + 1) ≡ low + k + 1 = omega arith in
    rw (first, second, same) (up (low + k) (omega arith))

pub place_in_part : (xs : List ℕ) (from low n c place : ℕ) → low + n ≤ length xs → from ≤ low
    → ((k : ℕ) → from ≤ k → k < low → get_or xs k 0 ≤ c) → (low + n < length xs → c < get_or xs (low + n) 0)
    → IsPlaceFrom (take n (drop low xs)) 0 c place → IsPlaceFrom xs from c (low + place)
place_in_part xs from low n c place room least passed next p =
    let long : length (take n (drop low xs)) ≡ n = length-take-le n (drop low xs) (omega (arith, length-drop low xs)) in
    let within = p.within in
    record {
      least = omega arith;
      within = omega arith;
      passed = λ k a b. elim (cases_lt k low) [
        | inl h ↦ passed k a h
        | inr h ↦
            (let same : low + (k - low) ≡ k = omega arith in
            let here = part_at xs low n (k - low) (omega arith) in
            let up = p.passed (k - low) (omega arith) (omega arith) in
            rw same at (rw here at up))
      ];
      next = λ h. elim (cases_lt place n) [
        | inl l ↦ rw (part_at xs low n place l) at (p.next (omega arith))
        | inr l ↦ (let same : place ≡ n = omega arith in rw same (next (omega arith)))
      ];
    }

-- The index of the first boundary above c.
pub record Place (xs : List ℕ) (n c : ℕ) : Type 0 where
  pub place : ℕ
  pub within : place ≤ n
  pub before : 0 < place → get_or xs (place - 1) 0 ≤ c
  pub next : place < n → c < get_or xs place 0

pub place_of : (xs : List ℕ) (n c : ℕ) → Place xs n c
place_of xs zero c =
    record { place = 0; within = omega arith; before = λ h. absurd (omega arith); next = λ h. absurd (omega arith) }
place_of xs (suc n) c =
    let p = place_of xs n c in
    elim (cases_lt p.place n) [
      | inl h ↦ record { place = p.place; within = omega arith; before = p.before; next = λ l. p.next h }
      | inr h ↦
          (let same : p.place ≡ n = (let w = p.within in omega arith) in
          elim (cases_lt c (get_or xs n 0)) [
            | inl k ↦ record { place = n; within = omega arith; before = rw same at p.before; next = λ l. k }
            | inr k ↦ record {
              place = n + 1;
              within = omega arith;
              before = (λ l. let e : n + 1 - 1 ≡ n = omega arith in rw e k);
              next = λ l. absurd (omega arith);
            }
          ])
    ]

-- A range of the set.
pub holds_in : (xs : List ℕ) (k c : ℕ) → IsValid xs → k % 2 ≡ 0 → k + 1 < length xs → get_or xs k 0 ≤ c → c < get_or xs (k + 1) 0
    → holds xs c ≡ true
holds_in xs k c v e l a b =
    let same : k + 1 - 1 ≡ k = omega arith in
    holds_at xs (k + 1) c v (omega arith) (λ h. rw same a) (λ h. b) ∙ odd (k + 1) (omega arith)

pub record InRange (xs : List ℕ) (c : ℕ) : Type 0 where
  pub place : ℕ
  pub is_even : place % 2 ≡ 0
  pub inside : place + 1 < length xs
  pub from : get_or xs place 0 ≤ c
  pub to : c < get_or xs (place + 1) 0

pub range_of : (xs : List ℕ) (c : ℕ) → IsValid xs → holds xs c ≡ true → InRange xs c
range_of xs c v h =
    let p = place_of xs (length xs) c in
    let o = is-odd p.place (sym (holds_at xs p.place c v p.within p.before p.next) ∙ h) in
    let e = v.even in
    let w = p.within in
    let l : p.place < length xs = elim (cases_eq p.place (length xs)) [ inl q ↦ absurd (omega arith) | inr q ↦ omega arith ] in
    let same : p.place - 1 + 1 ≡ p.place = omega arith in
    record {
      place = p.place - 1;
      is_even = omega arith;
      inside = omega arith;
      from = p.before (omega arith);
      to = rw same (p.next l);
    }

-- ---- subsets
-- The set a contains the ranges of b before index i, and the boundaries of a before index `place`
-- are not above the next range.
pub record Checked (a b : List ℕ) (i place : ℕ) : Type 0 where
  pub ranges : (k : ℕ) → k + 1 < i → k % 2 ≡ 0 → HoldsAll a (get_or b k 0) (get_or b (k + 1) 0)
  pub before : i < length b → 0 < place → get_or a (place - 1) 0 ≤ get_or b i 0

pub checked_none : (a b : List ℕ) → Checked a b 0 0
checked_none a b = record { ranges = λ k h. absurd (omega arith); before = λ h l. absurd (omega arith) }

module _ (a b : List ℕ) (i place next : ℕ) (v : IsValid a) (w : IsValid b) (e : i % 2 ≡ 0) (inside : i + 1 < length b)
    (checked : Checked a b i place) (found : IsPlaceFrom a place (get_or b i 0) next) where
  before_next : 0 < next → get_or a (next - 1) 0 ≤ get_or b i 0
  before_next h = elim (cases_lt place next) [
    | inl l ↦ found.passed (next - 1) (omega arith) (omega arith)
    | inr l ↦ (let same : next ≡ place = (let m = found.least in omega arith) in rw same (checked.before (omega arith) (omega arith)))
  ]

  pub checked_more : next % 2 ≡ 1 → next < length a → get_or b (i + 1) 0 ≤ get_or a next 0 → Checked a b (i + 2) next
  checked_more o l up = record {
    ranges = λ k h d. elim (cases_lt (k + 1) i) [
      | inl m ↦ checked.ranges k m d
      | inr m ↦
          (let same : k ≡ i = omega arith in
          rw same (λ c from to.
          holds_at a next c v (omega arith) (λ q. (let p = before_next q in omega arith)) (λ q. omega arith) ∙ odd next o))
    ];
    before = λ h q.
        (let p = before_next q in let r = IsNonDecreasingBy-strictly b w.ascending i (i + 2) 0 (omega arith) h in omega arith);
  }

  pub checked_last : IsSubset b a → (next % 2 ≡ 1) × (next < length a) × (get_or b (i + 1) 0 ≤ get_or a next 0)
  checked_last sub =
      let s = get_or b i 0 in
      let t = get_or b (i + 1) 0 in
      let n = get_or a next 0 in
      let rises : s < t = w.ascending i inside in
      let small : t ≤ code_point_limit = w.within (i + 1) 0 inside in
      let held : holds a s ≡ true = sub s (omega arith) (holds_in b i s w e inside (omega arith) rises) in
      let m = found.within in
      let o = is-odd next (sym (holds_at a next s v m before_next found.next) ∙ held) in
      let d = v.even in
      let l : next < length a = elim (cases_eq next (length a)) [ inl q ↦ absurd (omega arith) | inr q ↦ omega arith ] in
      let above : s < n = found.next l in
      let up : t ≤ n = elim (cases_lt n t) [
        | inl q ↦ absurd
            (let here : holds a n ≡ true = sub n (omega arith) (holds_in b i n w e inside (omega arith) q) in
            let same : next + 1 - 1 ≡ next = omega arith in
            let not_here : holds a n ≡ false =
            holds_at a (next + 1) n v (omega arith) (λ h. rw same (omega arith)) (λ h. v.ascending next h)
            ∙ even (next + 1) (omega arith) in
            both_ways _ not_here here)
        | inr q ↦ q
      ] in
      (o, l, up)

pub checked_all : (a b : List ℕ) (i place : ℕ) → IsValid b → i % 2 ≡ 0 → length b ≤ i + 1 → Checked a b i place → IsSubset b a
checked_all a b i place w e l checked c small h =
    let r = range_of b c w h in
    let d = w.even in
    let inside = r.inside in
    checked.ranges r.place (omega arith) r.is_even c r.from r.to

-- ---- members below a number
past_member : (xs : List ℕ) (c : ℕ) → holds xs c ≡ true → members_below xs (suc c) ≡ members_below xs c + 1
unfolding members_below
past_member xs c h = ap (λ (b : Bool). members_below xs c + cond b 1 0) h

past_other : (xs : List ℕ) (c : ℕ) → holds xs c ≡ false → members_below xs (suc c) ≡ members_below xs c + 0
unfolding members_below
past_other xs c h = ap (λ (b : Bool). members_below xs c + cond b 1 0) h

members_in : (xs : List ℕ) (a n : ℕ) → ((c : ℕ) → a ≤ c → c < a + n → holds xs c ≡ true) → members_below xs (a + n) ≡ members_below xs a + n
members_in xs a zero all = let e : a + 0 ≡ a = omega arith in rw e (omega arith)
members_in xs a (suc n) all =
    let i = members_in xs a n (λ c h l. all c h (omega arith)) in
    let e : a + suc n ≡ suc (a + n) = omega arith in
    let one = past_member xs (a + n) (all (a + n) (omega arith) (omega arith)) in
    rw e (omega arith)

members_out : (xs : List ℕ) (a n : ℕ) → ((c : ℕ) → a ≤ c → c < a + n → holds xs c ≡ false) → members_below xs (a + n) ≡ members_below xs a
members_out xs a zero none = let e : a + 0 ≡ a = omega arith in rw e refl
members_out xs a (suc n) none =
    let i = members_out xs a n (λ c h l. none c h (omega arith)) in
    let e : a + suc n ≡ suc (a + n) = omega arith in
    let none_more = past_other xs (a + n) (none (a + n) (omega arith) (omega arith)) in
    rw e (omega arith)

no_members : (xs : List ℕ) → members_below xs 0 ≡ 0
unfolding members_below
no_members xs = refl

pub gap_first : (xs : List ℕ) → IsValid xs → Gap xs 0 0
gap_first xs v c from to =
    let none = members_out xs 0 c (λ d h l. holds_at xs 0 d v (omega arith) (λ q. absurd (omega arith))
    (λ q. (let t = to q in omega arith)) ∙ even 0 refl) in
    let e : 0 + c ≡ c = omega arith in
    (rw e at none) ∙ no_members xs

module _ (xs : List ℕ) (i before : ℕ) (v : IsValid xs) (e : i % 2 ≡ 0) (inside : i + 1 < length xs) (gap : Gap xs i before) where
  rises : get_or xs i 0 < get_or xs (i + 1) 0
  rises = v.ascending i inside

  at_start : members_below xs (get_or xs i 0) ≡ before
  at_start = gap (get_or xs i 0)
      (λ h. (let r = IsNonDecreasingBy-strictly xs v.ascending (i - 1) i 0 (omega arith) (omega arith) in r)) (λ h. omega arith)

  pub members_up_to : (c : ℕ) → get_or xs i 0 ≤ c → c ≤ get_or xs (i + 1) 0 → members_below xs c ≡ before + (c - get_or xs i 0)
  members_up_to c from to =
      let s = get_or xs i 0 in
      let n = c - s in
      let all = members_in xs s n (λ d h l. holds_in xs i d v e inside h (omega arith)) in
      let same : s + n ≡ c = omega arith in
      (rw same at all) ∙ ap (λ m. m + n) at_start

  pub members_small : before + (get_or xs (i + 1) 0 - get_or xs i 0) ≤ get_or xs (i + 1) 0
  members_small =
      let m = members_up_to (get_or xs (i + 1) 0) (let r = rises in omega arith) (omega arith) in
      let l = members_below-le xs (get_or xs (i + 1) 0) in omega arith

  pub gap_next : Gap xs (i + 2) (before + (get_or xs (i + 1) 0 - get_or xs i 0))
  gap_next c from to =
      let t = get_or xs (i + 1) 0 in
      let last : i + 2 - 1 ≡ i + 1 = omega arith in
      let up : t ≤ c = rw last at (from (omega arith)) in
      let n = c - t in
      let none = members_out xs t n (λ d h l. holds_at xs (i + 2) d v (omega arith) (λ q. rw last h)
      (λ q. (let k = to q in omega arith)) ∙ even (i + 2) (omega arith)) in
      let same : t + n ≡ c = omega arith in
      (rw same at none) ∙ members_up_to t (let r = rises in omega arith) (omega arith)

  pub nth_found : (n left old c : ℕ) → left ≤ n → before ≡ n - left → left < get_or xs (i + 1) 0 - get_or xs i 0 → c ≡ get_or xs i 0 + left
      → GivesNth xs n old true c
  nth_found n left old c small is l at =
      let held : holds xs c ≡ true = holds_in xs i c v e inside (omega arith) (omega arith) in
      let many : members_below xs c ≡ n = (let m = members_up_to c (omega arith) (omega arith) in omega arith) in
      let t : get_or xs (i + 1) 0 ≤ code_point_limit = v.within (i + 1) 0 inside in
      let f = fewer_below xs c code_point_limit (omega arith) held in
      inl (omega arith, refl, held, many)

  pub index_found : (c old new : ℕ) → get_or xs i 0 ≤ c → c < get_or xs (i + 1) 0 → new ≡ before + (c - get_or xs i 0)
      → GivesIndex xs c old true new
  index_found c old new from to is =
      let m = members_up_to c from (omega arith) in inl (holds_in xs i c v e inside from to, refl, omega arith)

pub nth_none : (xs : List ℕ) (i before n old new : ℕ) → IsValid xs → i % 2 ≡ 0 → i ≤ length xs → length xs ≤ i + 1 → Gap xs i before
    → before ≤ n → new ≡ old
    → GivesNth xs n old false new
nth_none xs i before n old new v e m l gap small same =
    let d = v.even in
    let all = gap code_point_limit (λ h. v.within (i - 1) 0 (omega arith)) (λ h. absurd (omega arith)) in
    inr (omega arith, refl, same)

pub index_none : (xs : List ℕ) (i c old new : ℕ) → IsValid xs → i % 2 ≡ 0 → i ≤ length xs → (0 < i → get_or xs (i - 1) 0 ≤ c)
    → (i + 1 < length xs → c < get_or xs i 0) → new ≡ old → GivesIndex xs c old false new
index_none xs i c old new v e l before next same =
    let d = v.even in
    inr (holds_at xs i c v l before (λ h. next (omega arith)) ∙ even i e, refl, same)
