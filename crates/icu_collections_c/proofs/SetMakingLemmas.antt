-- Ranges that are joined in order, and complements.
use Rattle.std.proofs.Common.{◌≡◌, ◌∙◌, refl, sym, ap, ℕ, zero, suc, ◌+◌, ◌-◌, ◌*◌, ◌<◌, ◌≤◌, min, max, Bool, true, false, cond, ◌||◌, not, ◌⊎◌, List, [], ◌∷◌, ◌++◌, length, take, drop, get_or, arith, inl, inr, Bor}
use Rattle.std.specs.Prelude.{◌==◌, if◌then◌else◌, nat_le, All}
use denote.Param.Members.{Mut}
use Rattle.std.specs.Fn.{Called, ComputesOnPairs}
use Rattle.std.specs.List.{IsAllAdjacentAnswer, list_any}
use Rattle.std.specs.List.Sorted.{IsNonDecreasingBy, IsPermutation, IsStrictlyIncreasing}
use Rattle.std.proofs.lemmas.Bool.{cases_lt, cases_eq, eq-eqb, le-leb, leb-true, lt-leb, ne_eqb}
use Rattle.std.proofs.lemmas.Bool.Decides.{nat_tests}
use Rattle.std.proofs.lemmas.List.{get_or_append_left, get_or_default, length-append, length-set, take_more, take_more_set}
use Rattle.std.proofs.lemmas.List.Elements.{All-append, All-cons, All-nil}
use Rattle.std.proofs.lemmas.List.Folds.{list_any_more}
use Rattle.std.proofs.lemmas.List.Sums.{sum_by-cons, sum_by_push}
use Rattle.std.proofs.Math.ListN.{set}
use Rattle.std.proofs.Math.Seq.{drop-nil, get_or-append_seam, take-length, take-nil}
use Rattle.std.proofs.lemmas.Fn.{always_returns_same}
use Rattle.std.proofs.lemmas.List.Sorted.{IsNonDecreasingBy-from_all_adjacent, length_permutation, list_any-IsPermutation}
use Rattle.icu_zerovec.specs.CodePoints.{code_point_limit}
use Rattle.icu_invlist.specs.InversionList.{Acts, IsValid, complement_of, either, ends_up_to, holds, is_odd, toggle_back, toggle_front}
use Rattle.icu_invlist.proofs.CallerLemmas.{complement-holds, complement_valid, holds-nil}
use Rattle.icu_frozen_sets.proofs.CallerLemmas.{IsNonDecreasingBy-strictly}
use Rattle.icu_zerovec.specs.Buffers.{written}
use Rattle.icu_collections_c.specs.Inside.Joined.{IsJoined, StartsUpTo}
use Rattle.icu_collections_c.specs.SetBuilding.{HoldsExactly, in_range, in_some, is_one_of}
use Rattle.icu_collections_c.specs.declared.set_building.Interval.{Interval}
use Rattle.icu_collections_c.proofs.SetPlaceLemmas.{even, odd}

-- ---- one more boundary
module _ (xs : List ℕ) (e : ℕ) where
  up_to-push : (c : ℕ) → ends_up_to (xs ++ e ∷ []) c ≡ ends_up_to xs c + cond (nat_le e c) 1 0
  unfolding ends_up_to
  up_to-push c = sum_by_push (λ x. cond (nat_le x c) 1 0) xs e

  up_to-below : (c : ℕ) → c < e → ends_up_to (xs ++ e ∷ []) c ≡ ends_up_to xs c
  up_to-below c h = up_to-push c ∙ rw (lt-leb e c h) (omega arith)

  up_to-above : (c : ℕ) → e ≤ c → ends_up_to (xs ++ e ∷ []) c ≡ ends_up_to xs c + 1
  up_to-above c h = up_to-push c ∙ rw (le-leb e c h) (omega arith)

  rises-push : IsStrictlyIncreasing xs → (0 < length xs → get_or xs (length xs - 1) 0 < e) → IsStrictlyIncreasing (xs ++ e ∷ [])
  rises-push up past k l =
      let long = length-append xs (e ∷ []) in
      elim (cases_lt (k + 1) (length xs)) [
        | inl h ↦ rw (get_or_append_left xs (e ∷ []) 0 k (omega (arith, h)), get_or_append_left xs (e ∷ []) 0 (k + 1) h) (up k h)
        | inr h ↦
            (let last : k + 1 ≡ length xs = omega (arith, h, l, long) in
            let own : length xs - 1 ≡ k = omega (arith, last) in
            rw (get_or_append_left xs (e ∷ []) 0 k (omega (arith, last)), last, get_or-append_seam xs e [] 0)
            (rw own at (past (omega (arith, last)))))
      ]

up_to-all : (xs : List ℕ) (c : ℕ) → ((k : ℕ) → k < length xs → get_or xs k 0 ≤ c) → ends_up_to xs c ≡ length xs
unfolding ends_up_to
up_to-all [] c all = refl
up_to-all (x ∷ xs) c all =
    sum_by-cons (λ e. cond (nat_le e c) 1 0) x xs
    ∙ rw (le-leb x c (all 0 (omega arith)), up_to-all xs c (λ k h. all (suc k) (omega (arith, h)))) (omega arith)

-- All boundaries are at most c if the last one is.
up_to-last : (xs : List ℕ) (c : ℕ) → IsStrictlyIncreasing xs → (0 < length xs → get_or xs (length xs - 1) 0 ≤ c) → ends_up_to xs c ≡ length xs
up_to-last xs c up last =
    let below : (k : ℕ) → k < length xs → get_or xs k 0 ≤ c = λ k h.
    (let r = IsNonDecreasingBy-strictly xs up k (length xs - 1) 0 (omega (arith, h)) (omega (arith, h)) in
    let l = last (omega (arith, h)) in omega (arith, r, l)) in
    up_to-all xs c below

module _ (old new : List ℕ) (first last end : ℕ) (starts : StartsUpTo first old) (bound : end ≡ min last 0x10FFFF + 1) (some : first < end) where
  before_new : (c : ℕ) → c < first → in_range (record { first = first; last = last }) c ≡ false
  before_new c h = rw (lt-leb first c h) refl

  in_new : (c : ℕ) → first ≤ c → c < end → in_range (record { first = first; last = last }) c ≡ true
  in_new c from h = rw (le-leb first c from, le-leb c last (omega (arith, h, bound))) refl

  past_new : (c : ℕ) → c < code_point_limit → end ≤ c → in_range (record { first = first; last = last }) c ≡ false
  past_new c small h = rw (le-leb first c (omega (arith, h, some)), lt-leb c last (omega (arith, small, h, bound))) refl

  or-false : (b : Bool) → b ≡ (b || false)
  or-false true = refl
  or-false false = refl

  -- The last range of the set, up to e, is extended to m.
  module _ (xs : List ℕ) (e m : ℕ) (was : old ≡ xs ++ e ∷ []) (is : new ≡ xs ++ m ∷ []) (near : first ≤ e) (most : m ≡ max e end) where
    one : length old ≡ length xs + 1
    one = ap length was ∙ length-append xs (e ∷ [])

    same_length : length new ≡ length old
    same_length = ap length is ∙ length-append xs (m ∷ []) ∙ sym one

    same : (k : ℕ) → k < length xs → get_or old k 0 ≡ get_or xs k 0
    same k h = rw was (get_or_append_left xs (e ∷ []) 0 k h)

    many : 0 < length xs
    many = let v = starts.valid.even in omega (arith, one, v)

    start : get_or xs (length xs - 1) 0 ≤ first
    start =
        let l = starts.last (omega (arith, one, many)) in
        let at : length old - 2 ≡ length xs - 1 = omega (arith, one) in
        (rw (← same (length xs - 1) (omega (arith, many))) (rw at at l))

    rises : IsStrictlyIncreasing xs
    rises k h = rw (← same k (omega (arith, h)), ← same (k + 1) h) (starts.valid.ascending k (omega (arith, h, one)))

    all_of : (c : ℕ) → first ≤ c → ends_up_to xs c ≡ length xs
    all_of c h = up_to-last xs c rises (λ q. omega (arith, start, h))

    set_is : Acts either old (in_range (record { first = first; last = last })) new
    set_is c small = rw (was, is) (elim (cases_lt c first) [
      | inl h ↦
          rw (before_new c h)
          (ap is_odd (up_to-below xs m c (omega (arith, h, near, most)) ∙ sym (up_to-below xs e c (omega (arith, h, near)))) ∙ or-false _)
      | inr h ↦ elim (cases_lt c e) [
        | inl k ↦
            rw (odd_of c e h k, odd_of c m h (omega (arith, k, most))) refl
        | inr k ↦ rw (even_of c e h k) (elim (cases_lt c end) [
          | inl q ↦ odd_of c m h (omega (arith, q, most)) ∙ sym (in_new c h q)
          | inr q ↦ even_of c m h (omega (arith, k, q, most)) ∙ sym (past_new c small q)
        ])
      ]
    ])
      where
        odd_of : (c b : ℕ) → first ≤ c → c < b → holds (xs ++ b ∷ []) c ≡ true
        odd_of c b h k = let v = starts.valid.even in odd _ (omega (arith, up_to-below xs b c k, all_of c h, v, one))

        even_of : (c b : ℕ) → first ≤ c → b ≤ c → holds (xs ++ b ∷ []) c ≡ false
        even_of c b h k = let v = starts.valid.even in even _ (omega (arith, up_to-above xs b c k, all_of c h, v, one))

    extended : IsJoined (record { first = first; last = last }) old new
    extended = record {
      starts = record {
        valid = record {
          even = let v = starts.valid.even in omega (arith, same_length, v);
          ascending = rw is (rises-push xs m rises (λ q. (let u = starts.valid.within (length xs) 0 (omega (arith, one)) in omega (arith, start, near, most, q, some))));
          within = rw is (All-append (λ b. b ≤ code_point_limit) xs (m ∷ [])
              (λ k d h. rw (← get_or_append_left xs (e ∷ []) d k h, ← was) (starts.valid.within k d (omega (arith, h, one))))
              (All-cons (λ b. b ≤ code_point_limit) m [] (let u = limit_e in omega (arith, u, most, bound)) (All-nil (λ b. b ≤ code_point_limit))));
        };
        last = λ h. (let at : length new - 2 ≡ length xs - 1 = omega (arith, same_length, one) in
            rw (at, is, get_or_append_left xs (m ∷ []) 0 (length xs - 1) (omega (arith, many))) start);
      };
      set = set_is;
      few = omega (arith, same_length);
    }
      where
        limit_e : e ≤ code_point_limit
        limit_e = rw (was, get_or-append_seam xs e [] 0) at (starts.valid.within (length xs) 0 (omega (arith, one)))

  pub extended_at : (i m : ℕ) → i ≡ length old → 0 < i → first ≤ get_or old (i - 1) 0 → m ≡ max (get_or old (i - 1) 0) end
      → new ≡ set old (i - 1) m → IsJoined (record { first = first; last = last }) old new
  extended_at i m all some_old near most made =
      let next : i - 1 + 1 ≡ length old = omega (arith, all, some_old) in
      let l : i - 1 < length old = omega (arith, all, some_old) in
      extended (take (i - 1) old) (get_or old (i - 1) 0) m
      (sym (take-length old) ∙ ap (λ n. take n old) (sym next) ∙ take_more old (i - 1) 0 l)
      (made ∙ sym (take-length (set old (i - 1) m)) ∙ ap (λ n. take n (set old (i - 1) m)) (length-set old (i - 1) m ∙ sym next)
      ∙ take_more_set old (i - 1) m l)
      near most

  -- The range comes after the last range of the set.
  module _ (far : 0 < length old → get_or old (length old - 1) 0 < first) (made : new ≡ (old ++ first ∷ []) ++ end ∷ []) where
    one_more : length (old ++ first ∷ []) ≡ length old + 1
    one_more = length-append old (first ∷ [])

    two_more : length new ≡ length old + 2
    two_more = ap length made ∙ length-append (old ++ first ∷ []) (end ∷ []) ∙ rw one_more (omega arith)

    all_old : (c : ℕ) → first ≤ c → ends_up_to old c ≡ length old
    all_old c h = up_to-last old c starts.valid.ascending (λ q. (let f = far q in omega (arith, f, h)))

    pushed_set : Acts either old (in_range (record { first = first; last = last })) new
    pushed_set c small = let v = starts.valid.even in rw made (elim (cases_lt c first) [
      | inl h ↦
          rw (before_new c h)
          (ap is_odd (up_to-below (old ++ first ∷ []) end c (omega (arith, h, some)) ∙ up_to-below old first c h) ∙ or-false _)
      | inr h ↦ rw (even (ends_up_to old c) (omega (arith, all_old c h, v))) (elim (cases_lt c end) [
        | inl q ↦
            odd _ (omega (arith, up_to-below (old ++ first ∷ []) end c q, up_to-above old first c h, all_old c h, v)) ∙ sym (in_new c h q)
        | inr q ↦
            even _ (omega (arith, up_to-above (old ++ first ∷ []) end c q, up_to-above old first c h, all_old c h, v))
            ∙ sym (past_new c small q)
      ])
    ])

    pub pushed_at : IsJoined (record { first = first; last = last }) old new
    pushed_at = record {
      starts = record {
        valid = record {
          even = let v = starts.valid.even in omega (arith, two_more, v);
          ascending = rw made (rises-push (old ++ first ∷ []) end (rises-push old first starts.valid.ascending far)
              (λ q. rw (one_more, less, get_or-append_seam old first [] 0) some));
          within = rw made (All-append (λ b. b ≤ code_point_limit) (old ++ first ∷ []) (end ∷ [])
              (All-append (λ b. b ≤ code_point_limit) old (first ∷ []) starts.valid.within (one first (omega (arith, some, bound))))
              (one end (omega (arith, bound))));
        };
        last = λ h.
            (let at : length new - 2 ≡ length old = omega (arith, two_more) in
            rw (
              at,
              made,
              get_or_append_left (old ++ first ∷ []) (end ∷ []) 0 (length old) (omega (arith, one_more)),
              get_or-append_seam old first [] 0,
            ) (omega arith));
      };
      set = pushed_set;
      few = omega (arith, two_more);
    }
      where
        less : length old + 1 - 1 ≡ length old
        less = omega arith

        one : (b : ℕ) → b ≤ code_point_limit → All (λ x. x ≤ code_point_limit) (b ∷ [])
        one b h = All-cons (λ x. x ≤ code_point_limit) b [] h (All-nil (λ x. x ≤ code_point_limit))

-- ---- ranges in the order of their first numbers
-- The first i items, as ranges, are joined into a set.
pub record AreJoined {X : Type 0} (range : X → Interval) (items : List X) (i : ℕ) (ends : List ℕ) : Type 0 where
  pub valid : IsValid ends
  pub starts : (k : ℕ) (d : X) → i ≤ k → k < length items → 1 < length ends
      → get_or ends (length ends - 2) 0 ≤ (range (get_or items k d)).first
  pub set : (c : ℕ) → c < code_point_limit → holds ends c ≡ list_any (λ x. in_range (range x) c) (take i items)
  pub few : length ends ≤ 2 * i

module _ {X : Type 0} (range : X → Interval) (items : List X) where
  pub none_joined : AreJoined range items 0 []
  none_joined = record {
    valid = record { even = refl; ascending = λ k h. absurd (omega arith); within = All-nil (λ e. e ≤ code_point_limit) };
    starts = λ k d h l m. absurd (omega arith);
    set = λ c h. holds-nil c;
    few = omega arith;
  }

  module _ (i : ℕ) (d : X) (ends new : List ℕ) (joined : AreJoined range items i ends) (inside : i < length items) where
    pub starts_up_to : StartsUpTo (range (get_or items i d)).first ends
    starts_up_to = record { valid = joined.valid; last = λ h. joined.starts i d (omega arith) inside h }

    pub joined_more : IsNonDecreasingBy (λ x. (range x).first) items → IsJoined (range (get_or items i d)) ends new
        → AreJoined range items (i + 1) new
    joined_more ascending more = record {
      valid = more.starts.valid;
      starts = λ k e h l m.
          (let s = more.starts.last m in
          let r = ascending i k e (omega arith) l in
          let same = ap (λ (x : X). (range x).first) (get_or_default items i d e inside) in
          omega arith);
      set = λ c h. more.set c h ∙ rw (list_any_more (λ x. in_range (range x) c) items i d inside, joined.set c h) refl;
      few = (let a = joined.few in let b = more.few in omega arith);
    }

  pub all_joined : (given : List X) (ends : List ℕ) → IsPermutation given items → AreJoined range items (length items) ends
      → HoldsExactly (λ c. list_any (λ x. in_range (range x) c) given) (2 * length given) ends
  all_joined given ends moved joined = record {
    held = λ c h.
        (rw take-length at (joined.set c h)) ∙ sym (list_any-IsPermutation (λ x. in_range (range x) c) given items moved);
    few = (let a = joined.few in let b = length_permutation given items moved in omega arith);
  }

-- The order of the ranges does not matter.
pub holds_moved : (given sorted : List Interval) (ends : List ℕ) → IsPermutation given sorted
    → HoldsExactly (in_some sorted) (2 * length sorted) ends → HoldsExactly (in_some given) (2 * length given) ends
holds_moved given sorted ends moved h = record {
  held = λ c l. h.held c l ∙ sym (list_any-IsPermutation (λ r. in_range r c) given sorted moved);
  few = (let a = h.few in let b = length_permutation given sorted moved in omega arith);
}

-- The first numbers ascend if each one is at most the next.
pub ascending_if_sorted : {F : Type 0} {g : Mut F (Bor Interval × (Bor Interval × Unit {0})) Bool} {f : F} (xs : List Interval) (r : Bool)
    → ((e : Interval → Interval → Bool) → ComputesOnPairs g e f → IsAllAdjacentAnswer (λ x y b. b ≡ e x y) xs r)
    → ((a : Bor Interval × (Bor Interval × Unit {0})) (b : Bool) (f' : F) → Called g f a b f'
    → (b ≡ nat_le a.0.now.first a.1.0.now.first) × (f' ≡ f))
    → r ≡ true → IsNonDecreasingBy (λ (x : Interval). x.first) xs
ascending_if_sorted {g = g} {f = f} xs r clause called is =
    let by = clause (λ x y. nat_le x.first y.first) (always_returns_same g (λ a b. b ≡ nat_le a.0.now.first a.1.0.now.first) f called) in
    IsNonDecreasingBy-from_all_adjacent (λ (x : Interval). x.first) xs (λ k d h. leb-true _ _ (sym ((rw is at by) k d h)))

-- A single code point as a range.
abbrev pub point_range : ℕ → Interval
point_range p = record { first = p; last = p }

point-in : (p c : ℕ) → in_range (point_range p) c ≡ (p == c)
point-in p c = grind (arith, nat_tests)

points-in : (c : ℕ) (points : List ℕ) → list_any (λ p. in_range (point_range p) c) points ≡ is_one_of points c
points-in c [] = refl
points-in c (p ∷ points) = rw (point-in p c, points-in c points) refl

pub holds_points : (points ends : List ℕ) (most : ℕ) → HoldsExactly (λ c. list_any (λ p. in_range (point_range p) c) points) most ends
    → HoldsExactly (is_one_of points) most ends
holds_points points ends most h = record { held = λ c l. h.held c l ∙ points-in c points; few = h.few }

-- ---- the complement
pub back_removed : (xs : List ℕ) (n : ℕ) → n + 1 ≡ length xs → ((k : ℕ) → k + 1 < length xs → get_or xs k 0 < code_point_limit)
    → get_or xs n 0 ≡ code_point_limit → take n xs ++ [] ≡ toggle_back xs
back_removed [] n e below last = absurd (omega arith)
back_removed (x ∷ []) zero e below last = rw (eq-eqb x code_point_limit last) refl
back_removed (x ∷ []) (suc n) e below last = absurd (omega arith)
back_removed (x ∷ y ∷ xs) zero e below last = absurd (omega arith)
back_removed (x ∷ y ∷ xs) (suc n) e below last =
    let x-below : x < code_point_limit = below 0 (omega arith) in
    rw (ne_eqb x code_point_limit (λ q. omega arith))
    (ap (λ zs. x ∷ zs) (back_removed (y ∷ xs) n (omega arith) (λ k h. below (suc k) (omega arith)) last))

pub back_added : (xs : List ℕ) → ((k : ℕ) → k < length xs → get_or xs k 0 < code_point_limit) → xs ++ code_point_limit ∷ [] ≡ toggle_back xs
back_added [] below = refl
back_added (x ∷ xs) below =
    let x-below : x < code_point_limit = below 0 (omega arith) in
    rw (ne_eqb x code_point_limit (λ e. omega arith)) (ap (λ zs. x ∷ zs) (back_added xs (λ k h. below (suc k) (omega arith))))

-- All boundaries but the last one are below the end of the code space.
pub all_below : (xs : List ℕ) → IsValid xs → (k : ℕ) → k + 1 < length xs → get_or xs k 0 < code_point_limit
all_below xs v k h = let up = v.ascending k h in let w = v.within (k + 1) 0 h in omega arith

pub each_below : (xs : List ℕ) → IsValid xs → (0 < length xs → get_or xs (length xs - 1) 0 ≡ code_point_limit → ⊥)
    → (k : ℕ) → k < length xs → get_or xs k 0 < code_point_limit
each_below xs v other k h = elim (cases_lt (k + 1) (length xs)) [
  | inl l ↦ all_below xs v k l
  | inr l ↦
      (let e : k ≡ length xs - 1 = omega arith in
      let w = v.within (length xs - 1) 0 (omega arith) in
      rw e (elim (cases_eq (get_or xs (length xs - 1) 0) code_point_limit) [
        | inl q ↦ absurd (other (omega arith) q)
        | inr q ↦ omega arith
      ]))
]

front-append : (xs ys : List ℕ) → (ys ≡ []) ⊎ (ys ≡ code_point_limit ∷ []) → toggle_front xs ++ ys ≡ toggle_front (xs ++ ys)
front-append [] ys (inl e) = rw e refl
front-append [] ys (inr e) = rw e refl
front-append (x ∷ xs) ys e = by (x == 0)
  where
    by : (b : Bool) → (if b then xs else 0 ∷ x ∷ xs) ++ ys ≡ (if b then (xs ++ ys) else 0 ∷ x ∷ (xs ++ ys))
    by true = refl
    by false = refl

pub complement_parts : (ends front middle rest back : List ℕ) → front ++ middle ≡ toggle_front rest → rest ++ back ≡ toggle_back ends
    → (back ≡ []) ⊎ (back ≡ code_point_limit ∷ []) → (front ++ middle) ++ back ≡ complement_of ends
complement_parts ends front middle rest back f b e =
    ap (λ zs. zs ++ back) f ∙ front-append rest back e ∙ ap toggle_front b

front-length : (xs : List ℕ) → length (toggle_front xs) ≤ length xs + 1
front-length [] = omega arith
front-length (x ∷ xs) = by (x == 0)
  where
    by : (b : Bool) → length (if b then xs else 0 ∷ x ∷ xs) ≤ suc (length xs) + 1
    by true = omega arith
    by false = omega arith

back-length : (xs : List ℕ) → length (toggle_back xs) ≤ length xs + 1
back-length [] = omega arith
back-length (x ∷ xs) = by (x == code_point_limit) (back-length xs)
  where
    by : (b : Bool) → length (toggle_back xs) ≤ length xs + 1 → length (if b then [] else x ∷ toggle_back xs) ≤ suc (length xs) + 1
    by true h = omega arith
    by false h = omega arith

pub holds_complement : (ends complement : List ℕ) → IsValid ends → complement ≡ complement_of ends
    → IsValid complement × HoldsExactly (λ c. not (holds ends c)) (length ends + 2) complement
holds_complement ends complement v e = (
  rw e (complement_valid ends v),
  record {
    held = λ c h. rw e (complement-holds ends c v h);
    few = rw e (let a = front-length (toggle_back ends) in let b = back-length ends in omega arith);
  },
)

-- ---- a buffer that is filled part by part
pub written-append : {T : Type 0} (xs ys old : List T)
    → take (length xs) (written xs old) ++ written ys (drop (length xs) (written xs old)) ≡ written (xs ++ ys) old
written-append [] ys old = rw (take-nil (length old)) refl
written-append (x ∷ xs) ys [] = rw (drop-nil (length ys)) refl
written-append (x ∷ xs) ys (o ∷ old) = ap (λ zs. x ∷ zs) (written-append xs ys old)

pub filled_parts : {T : Type 0} (front middle back old one two three : List T) → one ≡ written front old
    → two ≡ take (length front) one ++ written middle (drop (length front) one)
    → three ≡ take (length front + length middle) two ++ written back (drop (length front + length middle) two)
    → three ≡ written ((front ++ middle) ++ back) old
filled_parts front middle back old one two three a b c =
    let both : two ≡ written (front ++ middle) old = b ∙ rw a (written-append front middle old) in
    c ∙ rw (both, ← length-append front middle) (written-append (front ++ middle) back old)
