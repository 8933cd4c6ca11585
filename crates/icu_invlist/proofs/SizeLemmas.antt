-- The number of members of a set: its sum over the boundaries, and what it says about subsets.
use Rattle.std.proofs.Common.{◌≡◌, ◌∙◌, sym, ap, refl, ℕ, ◌+◌, ◌-◌, ◌%◌, ◌<◌, ◌≤◌, zero, suc, List, [], ◌∷◌, ◌++◌, length, Bool, true, false, cond, arith, inl, inr, subst}
use Rattle.std.proofs.lemmas.Bool.{cases_Bool, cases_lt}
use Rattle.icu_zerovec.specs.CodePoints.{code_point_limit}
use Rattle.icu_invlist.specs.InversionList.{holds, IsSubset, IsValid, members_below}
use Rattle.icu_invlist.specs.Inside.Places.{Run}
use Rattle.icu_invlist.proofs.EqualSets.{same_parts}
use Rattle.icu_invlist.specs.Inside.PackedSets.{sum_of_sizes}
use Rattle.icu_invlist.proofs.MemberLemmas.{no_single, size-valid}
use Rattle.icu_invlist.proofs.ValidLists.{run_from_valid}

-- ---- a sum over all boundaries
-- Each boundary less the sum so far: after an even number of ascending boundaries, the number of
-- members below the last one.
abbrev pub counted : ℕ → List ℕ → ℕ
counted s [] = s
counted s (e ∷ es) = counted (e - s) es

pub counted_more : (s e : ℕ) (xs : List ℕ) → counted s (xs ++ e ∷ []) ≡ e - counted s xs
counted_more s e [] = refl
counted_more s e (x ∷ xs) = counted_more (x - s) e xs

counted_is : (lo hi s : ℕ) (xs : List ℕ) → Run lo hi xs → s ≤ lo → length xs % 2 ≡ 0 → counted s xs ≡ s + sum_of_sizes xs
counted_is lo hi s [] r h e = omega arith
counted_is lo hi s (x ∷ []) r h e = absurd (omega arith)
counted_is lo hi s (x ∷ y ∷ xs) r h e = let i = counted_is (suc y) hi (y - (x - s)) xs r.2.2 (omega arith) (omega arith) in
    omega (arith, r.0, r.2.0)

pub counted_members : (xs : List ℕ) → IsValid xs → counted 0 xs ≡ members_below xs code_point_limit
counted_members xs v = let c = counted_is 0 (suc code_point_limit) 0 xs (run_from_valid xs v) (omega arith) v.even in
    let t = size-valid xs v in omega arith

-- The invariant of a set with the boundaries ys, which are equal to xs.
pub sized : (xs ys : List ℕ) (n : ℕ) → ys ≡ xs → IsValid xs → sum_of_sizes xs ≡ n → IsValid ys × (n ≡ members_below ys code_point_limit)
sized xs ys n e v t = rw e (v, sym (size-valid xs v ∙ t))

-- What the invariant of a set with the boundaries xs says of ys, which are equal to xs.
pub record Sized (ys : List ℕ) (n : ℕ) : Type 0 where
  pub valid : IsValid ys
  pub size : n ≡ members_below ys code_point_limit

pub sized_as : {xs ys : List ℕ} {n : ℕ} → xs ≡ ys → IsValid xs × (n ≡ members_below xs code_point_limit) → Sized ys n
sized_as e h = record { valid = subst IsValid e h.0; size = h.1 ∙ ap (λ (zs : List ℕ). members_below zs code_point_limit) e }

-- ---- empty sets
pub none_from_size : (xs : List ℕ) → IsValid xs → members_below xs code_point_limit ≡ 0 → xs ≡ []
none_from_size [] v e = refl
none_from_size (x ∷ []) v e = absurd (no_single x v)
none_from_size (x ∷ y ∷ xs) v e =
    let r = run_from_valid (x ∷ y ∷ xs) v in
    let a = size-valid (x ∷ y ∷ xs) v in absurd (omega (arith, r.2.0))

pub some_from_size : (xs : List ℕ) → IsValid xs → 0 < members_below xs code_point_limit → 0 < length xs
some_from_size [] v e = absurd (let a = size-valid [] v in omega arith)
some_from_size (x ∷ xs) v e = omega arith

-- ---- subsets
flag-le : (a b : Bool) → (a ≡ true → b ≡ true) → cond a 1 0 ≤ cond b 1 0
flag-le true b f = rw (f refl) (omega arith)
flag-le false true f = omega arith
flag-le false false f = omega arith

flag-lt : (a b : Bool) → a ≡ false → b ≡ true → cond a 1 0 < cond b 1 0
flag-lt a b e f = rw (e, f) (omega arith)

fewer_in_part : (part whole : List ℕ) (n : ℕ) → IsSubset part whole → n ≤ code_point_limit → members_below part n ≤ members_below whole n
unfolding members_below
fewer_in_part part whole zero s h = omega arith
fewer_in_part part whole (suc n) s h =
    let i = fewer_in_part part whole n s (omega arith) in
    let f = flag-le (holds part n) (holds whole n) (s n (omega arith)) in omega arith

-- A member that only the whole has is counted only there.
fewer_without : (part whole : List ℕ) (c n : ℕ) → IsSubset part whole → n ≤ code_point_limit → c < n → holds part c ≡ false
    → holds whole c ≡ true → members_below part n < members_below whole n
unfolding members_below
fewer_without part whole c zero s h l p w = absurd (omega arith)
fewer_without part whole c (suc n) s h l p w = elim (cases_lt c n) [
  | inl k ↦ let i = fewer_without part whole c n s (omega arith) k p w in
      let f = flag-le (holds part n) (holds whole n) (s n (omega arith)) in omega arith
  | inr k ↦ let e : c ≡ n = omega arith in
      let i = fewer_in_part part whole n s (omega arith) in
      let a : holds part n ≡ false = rw e at p in
      let b : holds whole n ≡ true = rw e at w in
      let f = flag-lt (holds part n) (holds whole n) a b in omega arith
]

-- A subset has at most as many members.
pub no_more_in_part : (part whole : List ℕ) → IsSubset part whole
    → members_below part code_point_limit ≤ members_below whole code_point_limit
no_more_in_part part whole s = fewer_in_part part whole code_point_limit s (omega arith)

-- A subset with as many members is the whole set.
pub same_by_size : (part whole : List ℕ) → IsValid part → IsValid whole
    → members_below part code_point_limit ≡ members_below whole code_point_limit → IsSubset part whole → whole ≡ part
same_by_size part whole v w e s = same_parts whole part w v
    (λ c l h. elim (cases_Bool (holds part c)) [
      | inl t ↦ t
      | inr f ↦ absurd (let i = fewer_without part whole c code_point_limit s (omega arith) l f h in omega arith)
    ]) s

pub part_of_same : (part whole : List ℕ) → whole ≡ part → IsSubset part whole
part_of_same part whole e c l h = rw e h
