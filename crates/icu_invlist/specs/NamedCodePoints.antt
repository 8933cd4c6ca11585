-- The numbers in a Rust range: from its start to before its end. An empty or reversed range
-- contains none.
use Rattle.std.specs.Prelude.{ℕ, ◌+◌, ◌-◌, ◌^◌, ◌<◌, ◌≡◌, ◌&&◌, Bool, List, min, nat_le, if◌then◌else◌}
use Rattle.std.specs.List.{list_any}
use Rattle.std.specs.Range.{range_inclusive_start, range_inclusive_end, range_inclusive_exhausted}
use Rattle.std.specs.declared.ops.RangeInclusive.{RangeInclusive}
use Rattle.icu_zerovec.specs.CodePoints.{code_point_limit}
use Rattle.icu_invlist.specs.InversionList.{between, holds}

-- The start of a range that has none, such as `..b`.
abbrev pub open_start : ℕ
open_start = 0

-- The exclusive end of a range that has none, such as `a..`: the end of the code space.
abbrev pub open_end : ℕ
open_end = code_point_limit

-- The exclusive end of a range whose last number is e. `u32::MAX` has no successor in 32 bits, so a
-- range up to it ends before it.
abbrev pub end_of_included : ℕ → ℕ
end_of_included e = min (e + 1) (2 ^ 32 - 1)

-- A range of characters or numbers as a range of numbers.
abbrev pub range_of_numbers : {X : Type 0} → (X → ℕ) → RangeInclusive X → RangeInclusive ℕ
range_of_numbers number r = record {
  start = number (range_inclusive_start r);
  end = number (range_inclusive_end r);
  exhausted = range_inclusive_exhausted r;
}

-- Whether a range `a..=b`, with a at most b, was iterated to its end, so that nothing is left.
abbrev pub is_used_up : RangeInclusive ℕ → Bool
is_used_up r =
    range_inclusive_exhausted r && nat_le (range_inclusive_start r) (range_inclusive_end r)

-- The exclusive end of `a..=b`. A range that was iterated to its end has its last number as its
-- start; the exclusive end is then that number, so the range is empty.
abbrev pub end_of_inclusive : RangeInclusive ℕ → ℕ
end_of_inclusive r =
    if is_used_up r then range_inclusive_end r else end_of_included (range_inclusive_end r)

-- Whether adding the range r to a set adds c. A range that ends above the code space adds nothing.
abbrev pub adds : RangeInclusive ℕ → ℕ → Bool
adds r c = nat_le (end_of_inclusive r) code_point_limit
    && between (range_inclusive_start r) (end_of_inclusive r) c

-- The set is the union of the ranges, as far as `adds` lets each of them add code points.
abbrev pub IsUnionOf : List (RangeInclusive ℕ) → List ℕ → Type 0
IsUnionOf ranges ends = (c : ℕ) → c < code_point_limit
    → holds ends c ≡ list_any (λ r. adds r c) ranges
