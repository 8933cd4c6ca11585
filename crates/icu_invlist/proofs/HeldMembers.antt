-- The members of a set are the code points that it contains, ascending.
use Rattle.std.proofs.Common.{◌≡◌, ℕ, ◌+◌, ◌-◌, ◌%◌, ◌<◌, ◌≤◌, List, [], ◌∷◌, ◌++◌, length, get_or, refl, ap, sym, ◌∙◌, subst, arith, zero, suc, Bool, true, false, cond, inl, inr, ◌↔◌}
use Rattle.std.proofs.lemmas.Bool.{cases_lt, false≢true, true≢false}
use Rattle.std.proofs.lemmas.List.Elements.{All-contains, All-contains_itself, All-filter, All-cons, All-nil, All-weaker, Contains-append_left, Contains-append_right, Contains-append_cases, Contains-get_or, filter_passes}
use Rattle.std.proofs.lemmas.List.FromFn.{get_or-range_with_len, length-range_with_len}
use Rattle.std.proofs.lemmas.List.Kept.{IsStrictlyIncreasing-filter}
use Rattle.std.specs.List.{All, Contains, filter, range_with_len}
use Rattle.std.specs.List.Sorted.{IsStrictlyIncreasing}
use Rattle.std.proofs.Math.Utf8.{scalar}
use Rattle.icu_zerovec.specs.CodePoints.{code_point_limit}
use Rattle.icu_invlist.specs.InversionList.{holds, is_odd, IsValid, members, characters}
use Rattle.icu_invlist.specs.Inside.Places.{Run}
use Rattle.icu_invlist.proofs.RunLemmas.{ends_below-before, run-append, run-wider}
use Rattle.icu_invlist.proofs.Parity.{holds-ends_below}
use Rattle.icu_invlist.proofs.MemberLemmas.{pair_past, pair_in, pair_before}
use Rattle.icu_invlist.proofs.ValidLists.{run_from_valid, rises}

pub no_members : members [] ≡ []
unfolding members
no_members = refl

pub more_members : (s e : ℕ) (ends : List ℕ) → members (s ∷ e ∷ ends) ≡ range_with_len s (e - s) ++ members ends
unfolding members
more_members s e ends = refl

-- ---- consecutive numbers
all_in_row : (low a n : ℕ) → low ≤ a → All (λ c. (low ≤ c) × (c < a + n)) (range_with_len a n)
all_in_row low a zero h = All-nil (λ (c : ℕ). (low ≤ c) × (c < a + 0))
all_in_row low a (suc n) h = All-cons (λ (c : ℕ). (low ≤ c) × (c < a + suc n)) a (range_with_len (a + 1) n) (h, omega arith)
    (All-weaker (λ (c : ℕ). (low ≤ c) × (c < a + 1 + n)) (λ (c : ℕ). (low ≤ c) × (c < a + suc n)) (λ c p. (p.0, omega (arith, p.1)))
    (range_with_len (a + 1) n) (all_in_row low (a + 1) n (omega arith)))

from_row : (a n c : ℕ) → Contains (range_with_len a n) c → (a ≤ c) × (c < a + n)
from_row a n c h = All-contains (λ (x : ℕ). (a ≤ x) × (x < a + n)) (range_with_len a n) c (all_in_row a a n (omega arith)) h

in_row : (a n c : ℕ) → a ≤ c → c < a + n → Contains (range_with_len a n) c
in_row a n c h k =
    let i : c - a < n = omega arith in
    let e : get_or (range_with_len a n) (c - a) 0 ≡ c = get_or-range_with_len a n (c - a) 0 i ∙ omega arith in
    subst (λ (x : ℕ). Contains (range_with_len a n) x) e (Contains-get_or (range_with_len a n) (c - a) 0 (rw (length-range_with_len a n) i))

row_rises : (a n : ℕ) → Run a (a + n) (range_with_len a n)
row_rises a zero = tt
row_rises a (suc n) = (
  omega arith,
  omega arith,
  run-wider (a + 1) (a + 1 + n) (suc a) (a + suc n) (range_with_len (a + 1) n) (omega arith)
      (omega arith) (row_rises (a + 1) n),
)

none_contained : (c : ℕ) → Contains [] c → ⊥
none_contained c (k, h, e) = omega (arith, h)

-- ---- the members of a strictly ascending list
none_held : (c : ℕ) → holds [] c ≡ false
none_held c = holds-ends_below [] c

not_below : (lo hi c : ℕ) (xs : List ℕ) → Run lo hi xs → holds xs c ≡ true → lo ≤ c
not_below lo hi c xs r h = elim (cases_lt c lo) [
  | inl k ↦ let z = ends_below-before lo hi xs (suc c) r k in
      absurd (true≢false (sym h ∙ holds-ends_below xs c ∙ ap is_odd z))
  | inr k ↦ k
]

held : (lo hi c : ℕ) (xs : List ℕ) → Run lo hi xs → length xs % 2 ≡ 0 → Contains (members xs) c → holds xs c ≡ true
held lo hi c [] r e h = absurd (none_contained c (subst (λ (xs : List ℕ). Contains xs c) no_members h))
held lo hi c (s ∷ []) r e h = absurd (omega (arith, e))
held lo hi c (s ∷ end ∷ xs) r e h =
    elim (Contains-append_cases (range_with_len s (end - s)) (members xs) c (rw (sym (more_members s end xs)) h)) [
      | inl k ↦ let p = from_row s (end - s) c k in (pair_in lo hi s end c xs r p.0 (omega (arith, p.1, r.2.0))).0
      | inr k ↦ let t = held (suc end) hi c xs r.2.2 (omega (arith, e)) k in
          (pair_past lo hi s end c xs r (let b = not_below (suc end) hi c xs r.2.2 t in omega arith)).0 ∙ t
    ]

found : (lo hi c : ℕ) (xs : List ℕ) → Run lo hi xs → length xs % 2 ≡ 0 → holds xs c ≡ true → Contains (members xs) c
found lo hi c [] r e h = absurd (true≢false (sym h ∙ none_held c))
found lo hi c (s ∷ []) r e h = absurd (omega (arith, e))
found lo hi c (s ∷ end ∷ xs) r e h = rw (more_members s end xs) (elim (cases_lt c s) [
  | inl k ↦ absurd (true≢false (sym h ∙ pair_before lo hi s end c xs r k))
  | inr k ↦ elim (cases_lt c end) [
    | inl l ↦ Contains-append_left (range_with_len s (end - s)) (members xs) c (in_row s (end - s) c k (omega arith))
    | inr l ↦ Contains-append_right (range_with_len s (end - s)) (members xs) c
        (found (suc end) hi c xs r.2.2 (omega (arith, e)) (sym (pair_past lo hi s end c xs r l).0 ∙ h))
  ]
])

members_rise : (lo hi : ℕ) (xs : List ℕ) → Run lo hi xs → length xs % 2 ≡ 0 → Run lo hi (members xs)
members_rise lo hi [] r e = rw no_members tt
members_rise lo hi (s ∷ []) r e = absurd (omega (arith, e))
members_rise lo hi (s ∷ end ∷ xs) r e = rw (more_members s end xs)
    (run-append lo end hi (range_with_len s (end - s)) (members xs) (omega (arith, r.0, r.2.0)) (omega (arith, r.2.1))
    (run-wider s (s + (end - s)) lo end (range_with_len s (end - s)) r.0 (omega (arith, r.2.0)) (row_rises s (end - s)))
    (run-wider (suc end) hi end hi (members xs) (omega arith) (omega arith) (members_rise (suc end) hi xs r.2.2 (omega (arith, e)))))

-- ---- those that pass a test
passed : (p : ℕ → Bool) (xs : List ℕ) (c : ℕ) → Contains (filter p xs) c → (p c ≡ true) × Contains xs c
passed p xs c h = (
  All-contains (λ x. p x ≡ true) (filter p xs) c (filter_passes p xs) h,
  All-contains (Contains xs) (filter p xs) c (All-filter p (Contains xs) xs (All-contains_itself xs)) h,
)

only : (x c : ℕ) → Contains (x ∷ []) c → x ≡ c
only x c (zero, h, e) = e
only x c (suc k, h, e) = absurd (omega (arith, h))

kept_later : (b : Bool) (x c : ℕ) (ys : List ℕ) → Contains ys c → Contains (cond b (x ∷ ys) ys) c
kept_later true x c ys k = Contains-append_right (x ∷ []) ys c k
kept_later false x c ys k = k

kept_first : (b : Bool) (x c : ℕ) (ys : List ℕ) → b ≡ true → x ≡ c → Contains (cond b (x ∷ ys) ys) c
kept_first true x c ys t e = (0, omega arith, e)
kept_first false x c ys t e = absurd (false≢true t)

kept : (p : ℕ → Bool) (xs : List ℕ) (c : ℕ) → p c ≡ true → Contains xs c → Contains (filter p xs) c
kept p [] c t h = absurd (none_contained c h)
kept p (x ∷ xs) c t h = elim (Contains-append_cases (x ∷ []) xs c h) [
  | inl k ↦ kept_first (p x) x c (filter p xs) (ap p (only x c k) ∙ t) (only x c k)
  | inr k ↦ kept_later (p x) x c (filter p xs) (kept p xs c t k)
]

-- ---- the characters of a set
pub characters_are_held : (ends : List ℕ) → IsValid ends → (c : ℕ) → Contains (characters ends) c ↔ (scalar c ≡ true)
    × (holds ends c ≡ true)
characters_are_held ends v c = (
  (λ h. let p = passed scalar (members ends) c h in (p.0, held 0 (suc code_point_limit) c ends (run_from_valid ends v) v.even p.1)),
  (λ h. kept scalar (members ends) c h.0 (found 0 (suc code_point_limit) c ends (run_from_valid ends v) v.even h.1)),
)

pub characters_rise : (ends : List ℕ) → IsValid ends → IsStrictlyIncreasing (characters ends)
characters_rise ends v = IsStrictlyIncreasing-filter scalar (members ends)
    (rises 0 (suc code_point_limit) (members ends) (members_rise 0 (suc code_point_limit) ends (run_from_valid ends v) v.even))
