-- How many members of a set are below a number.
use Rattle.std.proofs.Common.{◌≡◌, ◌∙◌, ℕ, ◌+◌, ◌<◌, ◌≤◌, List, Some, None, Bool, true, false, not, ap, refl, arith, suc, zero, cond, inl, inr}
use Rattle.std.proofs.lemmas.Bool.{cases_lt, both_ways, cond-true}
use Rattle.icu_zerovec.specs.CodePoints.{code_point_limit}
use Rattle.icu_invlist.specs.InversionList.{IsValid, complement_of, holds, members_below}
use Rattle.icu_invlist.proofs.Complements.{complement-holds}
use Rattle.icu_invlist.proofs.PlaceLemmas.{not_past_limit}

-- ---- a member has fewer members below it than the set has
grows : (xs : List ℕ) (m n : ℕ) → m ≤ n → members_below xs m ≤ members_below xs n
unfolding members_below
grows xs m zero h = let e : m ≡ 0 = omega arith in rw e (omega arith)
grows xs m (suc n) h = elim (cases_lt m (suc n)) [
  | inl l ↦ let i = grows xs m n (omega arith) in omega arith
  | inr g ↦ let e : m ≡ suc n = omega arith in rw e (omega arith)
]

past_member : (xs : List ℕ) (c : ℕ) → holds xs c ≡ true → members_below xs (suc c) ≡ members_below xs c + 1
unfolding members_below
past_member xs c h = ap (λ (b : Bool). members_below xs c + cond b 1 0) h

pub fewer_below : (xs : List ℕ) (c n : ℕ) → c < n → holds xs c ≡ true → members_below xs c < members_below xs n
fewer_below xs c n l h = let a = past_member xs c h in let g = grows xs (suc c) n l in omega arith

-- A member is a code point.
pub held_within : (xs : List ℕ) (c : ℕ) → IsValid xs → holds xs c ≡ true → c < code_point_limit
held_within xs c v h = elim (cases_lt c code_point_limit) [ inl l ↦ l | inr g ↦ absurd (both_ways _ (not_past_limit xs c v g) h) ]

-- The index of a member is less than the size.
pub place-within : (xs : List ℕ) (c place : ℕ) → IsValid xs → holds xs c ≡ true
    → Some place ≡ cond (holds xs c) (Some (members_below xs c)) None → place < members_below xs code_point_limit
place-within xs c place v h e =
    let is : Some place ≡ Some (members_below xs c) = e ∙ cond-true _ _ _ h in
    let same : place ≡ members_below xs c = cc in
    let b = fewer_below xs c code_point_limit (held_within xs c v h) h in omega arith

-- ---- a set and its complement
flags : (a b : Bool) → b ≡ not a → cond a 1 0 + cond b 1 0 ≡ 1
flags true b e = rw e refl
flags false b e = rw e refl

-- If each of two sets contains exactly what the other does not, all numbers are counted.
pub counts_of_complements : (xs ys : List ℕ) (n : ℕ) → ((c : ℕ) → c < n → holds ys c ≡ not (holds xs c))
    → members_below xs n + members_below ys n ≡ n
unfolding members_below
counts_of_complements xs ys zero h = refl
counts_of_complements xs ys (suc n) h =
    let i = counts_of_complements xs ys n (λ c l. h c (omega arith)) in
    let f = flags (holds xs n) (holds ys n) (h n (omega arith)) in omega arith

-- The size of a set plus the size of its complement is the size of the code space.
pub sizes_of_complements : (xs : List ℕ) → IsValid xs
    → members_below xs code_point_limit + members_below (complement_of xs) code_point_limit ≡ code_point_limit
sizes_of_complements xs v = counts_of_complements xs (complement_of xs) code_point_limit (λ c l. complement-holds xs c v l)
