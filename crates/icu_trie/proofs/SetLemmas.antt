-- The boundaries of the ranges with one value.
use Rattle.std.proofs.Common.{◌≡◌, ◌⊎◌, inl, inr, ℕ, zero, suc, ◌+◌, ◌%◌, ◌<◌, ◌≤◌, List, [], ◌∷◌, ◌++◌, length, map, get_or, Option, Some, Bool, true, false, cond, not, nat_le, refl, sym, ap, ◌∙◌, ◌↔◌, arith}
use Rattle.std.proofs.lemmas.Bool.{cases_lt, le-leb, lt-leb, true≢false}
use Rattle.std.proofs.lemmas.Bool.Decides.{nat_tests}
use Rattle.std.proofs.lemmas.List.{length_push}
use Rattle.std.proofs.lemmas.List.Elements.{All-push}
use Rattle.std.proofs.lemmas.List.Kept.{AllPairs-from_increasing}
use Rattle.std.proofs.lemmas.List.Quantifiers.{all_pairs_push}
use Rattle.std.proofs.lemmas.List.Sums.{sum_by-append, sum_by-cons}
use Rattle.std.proofs.lemmas.Option.{same_Some}
use Rattle.std.specs.Bool.{MatchBool}
use mathlib.Core.Bool.{beq}
use Rattle.std.specs.List.{All, Any, count_by}
use Rattle.std.specs.List.Sorted.{IsStrictlyIncreasing}
use Rattle.icu_invlist.specs.InversionList.{holds, is_odd, ends_up_to}
use Rattle.icu_trie_core.specs.Runs.{AreRunsFrom}
use Rattle.icu_trie_core.specs.Range.{first_of, last_of, run_of}
use Rattle.icu_trie.specs.Ranges.{IsInRangeOf}
use Rattle.icu_trie_core.specs.declared.range.CodePointMapRange.{CodePointMapRange}

-- ---- Some element.
module _ {X : Type 0} (P : X → Type 0) where
  any-here : (x : X) (xs : List X) → P x → Any P (x ∷ xs)
  any-here x xs p = (0, x, omega arith, refl, p)

  any-there : (x : X) (xs : List X) → Any P xs → Any P (x ∷ xs)
  any-there x xs a = let lt = a.2 in (suc a.0, a.1, omega (arith, lt), a.3, a.4)

  any-cases : (x : X) (xs : List X) → Any P (x ∷ xs) → P x ⊎ Any P xs
  any-cases x xs a = found a.0 a.1 a.2 a.3 a.4
    where
      found : (k : ℕ) (y : X) → k < length (x ∷ xs) → get_or (x ∷ xs) k y ≡ y → P y → P x ⊎ Any P xs
      found zero y lt e p = inl (rw e p)
      found (suc k) y lt e p = inr (k, y, omega (arith, lt), e, p)

  any-front : (xs : List X) (y : X) → Any P xs → Any P (xs ++ y ∷ [])
  any-front [] y a = let lt = a.2 in absurd (omega (arith, lt))
  any-front (x ∷ xs) y a = elim (any-cases x xs a) [
    | inl p ↦ any-here x (xs ++ y ∷ []) p
    | inr q ↦
        any-there x (xs ++ y ∷ []) (any-front xs y q)
  ]

  any-last : (xs : List X) (y : X) → P y → Any P (xs ++ y ∷ [])
  any-last [] y p = any-here y [] p
  any-last (x ∷ xs) y p = any-there x (xs ++ y ∷ []) (any-last xs y p)

  any-push_cases : (xs : List X) (y : X) → Any P (xs ++ y ∷ []) → Any P xs ⊎ P y
  any-push_cases [] y a = elim (any-cases y [] a) [ inl p ↦ inr p | inr q ↦ inl q ]
  any-push_cases (x ∷ xs) y a = elim (any-cases x (xs ++ y ∷ []) a) [
    | inl p ↦ inl (any-here x xs p)
    | inr q ↦ elim (any-push_cases xs y q) [ inl r ↦ inl (any-there x xs r) | inr p ↦ inr p ]
  ]

-- ---- One more boundary after the others.
ends_up_to-push : (ends : List ℕ) (e c : ℕ) → ends_up_to (ends ++ e ∷ []) c ≡ ends_up_to ends c + cond (nat_le e c) 1 0
unfolding ends_up_to
ends_up_to-push ends e c = sum_by-append (λ x. cond (nat_le x c) 1 0) ends (e ∷ []) ∙ ap (λ n. ends_up_to ends c + n) one
  where
    one : count_by (λ x. nat_le x c) (e ∷ []) ≡ cond (nat_le e c) 1 0
    one = omega arith

ends_up_to-past : (ends : List ℕ) (c : ℕ) → All (λ e. e ≤ c) ends → ends_up_to ends c ≡ length ends
unfolding ends_up_to
ends_up_to-past [] c low = refl
ends_up_to-past (x ∷ xs) c low =
    let first : x ≤ c = low 0 0 (omega arith) in
    let rest : count_by (λ e. nat_le e c) xs ≡ length xs = ends_up_to-past xs c (λ k d h. low (suc k) d (omega (arith, h))) in
    rw (sum_by-cons (λ e. cond (nat_le e c) 1 0) x xs, rest, le-leb x c first) (omega arith)

rises-push : (ends : List ℕ) (m : ℕ) → IsStrictlyIncreasing ends → All (λ e. e < m) ends → IsStrictlyIncreasing (ends ++ m ∷ [])
rises-push ends m up low k h = all_pairs_push (λ x y. x < y) ends m (AllPairs-from_increasing ends up) low k (k + 1) 0 (omega arith) h

-- Membership past the last boundary.
holds-past : (ends : List ℕ) (c : ℕ) → All (λ e. e ≤ c) ends → holds ends c ≡ is_odd (length ends)
holds-past ends c low = ap is_odd (ends_up_to-past ends c low)

-- One more boundary changes nothing before it.
holds-push : (ends : List ℕ) (e c : ℕ) → c < e → holds (ends ++ e ∷ []) c ≡ holds ends c
holds-push ends e c lt = ap is_odd (ends_up_to-push ends e c ∙ rw (lt-leb e c lt) (omega arith))

even_next : (n : ℕ) → is_odd n ≡ false → is_odd (n + 1) ≡ true
even_next n e = grind (arith, nat_tests)

odd_next : (n : ℕ) → is_odd n ≡ true → is_odd (n + 1) ≡ false
odd_next n e = grind (arith, nat_tests)

even_before : (n : ℕ) → is_odd (n + 1) ≡ true → is_odd n ≡ false
even_before n e = grind (arith, nat_tests)

even_is : (n : ℕ) → is_odd n ≡ false → n % 2 ≡ 0
even_is n e = grind (arith, nat_tests)

-- ---- The boundaries of the ranges with the value, as far as the ranges go.
pub record Gathers {A : Type 0} (value : A) (ranges : List (CodePointMapRange A)) (next : ℕ) (ends : List ℕ) : Type 0 where
  pub rises : IsStrictlyIncreasing ends
  pub low : All (λ e. e < next) ends
  pub before : (c : ℕ) → IsInRangeOf value ranges c → c < next
  pub members : (c : ℕ) → c < next → (holds ends c ≡ true) ↔ IsInRangeOf value ranges c

module _ {A : Type 0} {value : A} {ranges : List (CodePointMapRange A)} {next : ℕ} {ends : List ℕ}
    (gathers : Gathers value ranges next ends) (x : CodePointMapRange A) (first : first_of x ≡ next) (order : next ≤ last_of x) where
  more : (ys : List ℕ) → IsStrictlyIncreasing ys → All (λ e. e ≤ next) ys → ((c : ℕ) → c < next → holds ys c ≡ holds ends c)
      → (is_odd (length ys) ≡ true) ↔ (x.value ≡ value) → Gathers value (ranges ++ x ∷ []) (last_of x + 1) ys
  more ys up low same odd = record {
    rises = up;
    low = λ k d h. let l = low k d h in omega (arith, l, order);
    before = λ c a. elim (any-push_cases (λ r. (r.value ≡ value) × (first_of r ≤ c) × (c ≤ last_of r)) ranges x a) [
      | inl p ↦ let lt = gathers.before c p in omega (arith, lt, order)
      | inr p ↦ let le = p.2 in omega (arith, le)
    ];
    members = λ c lt. elim (cases_lt c next) [
      | inl p ↦ (
        λ h. any-front (λ r. (r.value ≡ value) × (first_of r ≤ c) × (c ≤ last_of r)) ranges x
            ((gathers.members c p).0 (sym (same c p) ∙ h)),
        λ a. elim (any-push_cases (λ r. (r.value ≡ value) × (first_of r ≤ c) × (c ≤ last_of r)) ranges x a) [
          | inl q ↦ same c p ∙ (gathers.members c p).1 q
          | inr q ↦ let le = q.1 in absurd (omega (arith, le, first, p))
        ],
      )
      | inr p ↦ (
        λ h. any-last (λ r. (r.value ≡ value) × (first_of r ≤ c) × (c ≤ last_of r)) ranges x
            (odd.0 (sym (behind c p) ∙ h), omega (arith, first, p), omega (arith, lt)),
        λ a. elim (any-push_cases (λ r. (r.value ≡ value) × (first_of r ≤ c) × (c ≤ last_of r)) ranges x a) [
          | inl q ↦ let early = gathers.before c q in absurd (omega (arith, early, p))
          | inr q ↦ behind c p ∙ odd.1 q.0
        ],
      )
    ];
  }
    where
      behind : (c : ℕ) → next ≤ c → holds ys c ≡ is_odd (length ys)
      behind c p = holds-past ys c (λ k d h. let l = low k d h in omega (arith, l, p))

  -- The next range has the value and so did the last one, or neither has it.
  pub Gathers-kept : (is_odd (length ends) ≡ true) ↔ (x.value ≡ value) → Gathers value (ranges ++ x ∷ []) (last_of x + 1) ends
  Gathers-kept odd = more ends gathers.rises (λ k d h. let l = gathers.low k d h in omega (arith, l)) (λ c lt. refl) odd

  -- The next range has the value and the last one did not, or the reverse.
  pub Gathers-turned : (is_odd (length ends) ≡ false) ↔ (x.value ≡ value)
      → Gathers value (ranges ++ x ∷ []) (last_of x + 1) (ends ++ next ∷ [])
  Gathers-turned even = more (ends ++ next ∷ []) (rises-push ends next gathers.rises gathers.low)
      (All-push (λ e. e ≤ next) ends next (λ k d h. let l = gathers.low k d h in omega (arith, l)) (omega arith))
      (λ c lt. holds-push ends next c lt) (
        λ o. even.0 (even_before (length ends) (sym (ap is_odd (length_push ends next)) ∙ o)),
        λ v. ap is_odd (length_push ends next)
            ∙ even_next (length ends) (even.1 v),
      )

-- What the two tests say: whether the range has the value, and whether the last one did.
pub kept_tells : {P : Type 0} (has is_inside : Bool) → MatchBool has P (P → ⊥) → not (beq has is_inside) ≡ false → (is_inside ≡ true) ↔ P
kept_tells true true m e = (λ _. m, λ _. refl)
kept_tells true false m e = absurd (true≢false e)
kept_tells false true m e = absurd (true≢false e)
kept_tells false false m e = (λ k. absurd (true≢false (sym k)), λ p. absurd (m p))

pub turned_tells : {P : Type 0} (has is_inside : Bool) → MatchBool has P (P → ⊥) → not (beq has is_inside) ≡ true → (is_inside ≡ false) ↔ P
turned_tells true true m e = absurd (true≢false (sym e))
turned_tells true false m e = (λ _. m, λ _. refl)
turned_tells false true m e = (λ k. absurd (true≢false k), λ p. absurd (m p))
turned_tells false false m e = absurd (true≢false (sym e))

-- ---- All ranges.
module _ {A : Type 0} {value : A} {ranges : List (CodePointMapRange A)} {next : ℕ} {ends : List ℕ}
    (gathers : Gathers value ranges next ends) (within : next ≤ 0x110000) where
  all : (ys : List ℕ) → All (λ e. e ≤ next) ys → ((c : ℕ) → c < next → holds ys c ≡ holds ends c) → is_odd (length ys) ≡ false
      → (c : ℕ) → (holds ys c ≡ true) ↔ IsInRangeOf value ranges c
  all ys low same even c = elim (cases_lt c next) [
    | inl p ↦ (λ h. (gathers.members c p).0 (sym (same c p) ∙ h), λ a. same c p ∙ (gathers.members c p).1 a)
    | inr p ↦ (
      λ h. absurd (true≢false (sym h ∙ holds-past ys c (λ k d l. let le = low k d l in omega (arith, le, p)) ∙ even)),
      λ a. let early = gathers.before c a in absurd (omega (arith, early, p)),
    )
  ]

  pub members-closed : is_odd (length ends) ≡ false → (c : ℕ) → (holds ends c ≡ true) ↔ IsInRangeOf value ranges c
  members-closed even = all ends (λ k d h. let l = gathers.low k d h in omega (arith, l)) (λ c lt. refl) even

  pub members-opened : is_odd (length ends) ≡ true → (c : ℕ) → (holds (ends ++ next ∷ []) c ≡ true) ↔ IsInRangeOf value ranges c
  members-opened odd = all (ends ++ next ∷ [])
      (All-push (λ e. e ≤ next) ends next (λ k d h. let l = gathers.low k d h in omega (arith, l)) (omega arith))
      (λ c lt. holds-push ends next c lt) (ap is_odd (length_push ends next) ∙ odd_next (length ends) odd)

-- ---- Over a coherent trie, the ranges with a value are the code points that have it.
module _ {A : Type 0} (answers : ℕ → Option A) (value : A) where
  has_value : (from : ℕ) (xs : List (CodePointMapRange A)) → AreRunsFrom answers from (map run_of xs) → (c : ℕ) → IsInRangeOf value xs c
      → answers c ≡ Some value
  has_value from [] runs c a = let lt = a.2 in absurd (omega (arith, lt))
  has_value from (x ∷ xs) runs c a = elim (any-cases (λ r. (r.value ≡ value) × (first_of r ≤ c) × (c ≤ last_of r)) x xs a) [
    | inl p ↦ runs.1.equal c p.1 p.2 ∙ ap (λ v. Some v) p.0
    | inr p ↦ has_value (last_of x + 1) xs runs.2 c p
  ]

  in_range : (from : ℕ) (xs : List (CodePointMapRange A)) → AreRunsFrom answers from (map run_of xs) → (c : ℕ) → from ≤ c → c < 0x110000
      → answers c ≡ Some value → IsInRangeOf value xs c
  in_range from [] runs c begun within is = absurd (omega (arith, runs, begun, within))
  in_range from (x ∷ xs) runs c begun within is = elim (cases_lt (last_of x) c) [
    | inl p ↦ any-there (λ r. (r.value ≡ value) × (first_of r ≤ c) × (c ≤ last_of r)) x xs
        (in_range (last_of x + 1) xs runs.2 c (omega (arith, p)) within is)
    | inr p ↦
        let first = runs.0 in
        let low : first_of x ≤ c = omega (arith, first, begun) in
        let e : Some x.value ≡ Some value = sym (runs.1.equal c low p) ∙ is in
        any-here (λ r. (r.value ≡ value) × (first_of r ≤ c) × (c ≤ last_of r)) x xs (same_Some x.value value e, low, p)
  ]

  pub IsInRangeOf-from_runs : (xs : List (CodePointMapRange A)) → AreRunsFrom answers 0 (map run_of xs) → (c : ℕ) → c < 0x110000
      → IsInRangeOf value xs c ↔ (answers c ≡ Some value)
  IsInRangeOf-from_runs xs runs c within = (has_value 0 xs runs c, in_range 0 xs runs c (omega arith) within)
