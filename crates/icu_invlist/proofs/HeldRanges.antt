-- The ranges of a valid list contain what the set contains, and have gaps between them.
use Rattle.std.proofs.Common.{◌≡◌, ℕ, ◌+◌, ◌-◌, ◌%◌, ◌<◌, List, [], ◌∷◌, length, refl, sym, ◌∙◌, arith, suc, inl, inr}
use Rattle.std.proofs.lemmas.Bool.{cases_lt, le-leb, lt-leb}
use Rattle.icu_zerovec.specs.CodePoints.{code_point_limit}
use Rattle.icu_invlist.specs.InversionList.{AreApart, IsValid, StartsBehind, holds, in_ranges, is_odd, ranges_of}
use Rattle.icu_invlist.specs.Inside.Places.{Run, ends_below}
use Rattle.icu_invlist.proofs.RunLemmas.{ends_below-before, ends_below-yes, ends_below-no}
use Rattle.icu_invlist.proofs.Parity.{holds-ends_below, odd_same}
use Rattle.icu_invlist.proofs.ValidLists.{run_from_valid}

in_ranges-ends_below : (lo : ℕ) (xs : List ℕ) (c : ℕ) → Run lo (suc code_point_limit) xs → length xs % 2 ≡ 0
    → in_ranges (ranges_of xs) c ≡ is_odd (ends_below xs (suc c))
in_ranges-ends_below lo [] c r even = refl
in_ranges-ends_below lo (x ∷ []) c r even = absurd (omega arith)
in_ranges-ends_below lo (x ∷ y ∷ xs) c r even = let rest = in_ranges-ends_below (suc y) xs c r.2.2 (omega arith) in elim (cases_lt c x) [
  | inl l ↦ rw (lt-leb x c l, ends_below-no x (suc c) (y ∷ xs) l, ends_below-no y (suc c) xs (omega (arith, r.2.0)), rest) refl
  | inr l ↦ elim (cases_lt c y) [
    | inl k ↦ rw (
      le-leb x c l,
      le-leb c (y - 1) (omega arith),
      ends_below-yes x (suc c) (y ∷ xs) (omega arith),
      ends_below-no y (suc c) xs k,
      ends_below-before (suc y) (suc code_point_limit) xs (suc c) r.2.2 (omega arith),
    ) refl
    | inr k ↦ rw (
      le-leb x c l,
      lt-leb c (y - 1) (omega (arith, r.2.0)),
      ends_below-yes x (suc c) (y ∷ xs) (omega arith),
      ends_below-yes y (suc c) xs (omega arith),
      rest,
    )
        (odd_same (ends_below xs (suc c)) (suc (suc (ends_below xs (suc c)))) (omega arith))
  ]
]

-- A code point is in a range if and only if the set contains it.
pub ranges_hold : (xs : List ℕ) (c : ℕ) → IsValid xs → in_ranges (ranges_of xs) c ≡ holds xs c
ranges_hold xs c v = in_ranges-ends_below 0 xs c (run_from_valid xs v) v.even ∙ sym (holds-ends_below xs c)

starts_behind : (n lo : ℕ) (xs : List ℕ) → n < lo → Run lo (suc code_point_limit) xs → StartsBehind n (ranges_of xs)
starts_behind n lo [] h r = tt
starts_behind n lo (x ∷ []) h r = tt
starts_behind n lo (x ∷ y ∷ xs) h r = omega (arith, r.0)

apart_from : (lo : ℕ) (xs : List ℕ) → Run lo (suc code_point_limit) xs → AreApart (ranges_of xs)
apart_from lo [] r = tt
apart_from lo (x ∷ []) r = tt
apart_from lo (x ∷ y ∷ xs) r = (starts_behind (y - 1 + 1) (suc y) xs (omega (arith, r.2.0)) r.2.2, apart_from (suc y) xs r.2.2)

-- The ranges are ascending, with gaps between them.
pub ranges_apart : (xs : List ℕ) → IsValid xs → AreApart (ranges_of xs)
ranges_apart xs v = apart_from 0 xs (run_from_valid xs v)
