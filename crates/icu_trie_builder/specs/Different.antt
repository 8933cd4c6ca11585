-- The number of distinct blocks.
use Rattle.std.specs.Prelude.{ℕ, not, nat_eq, Bool, List, map}
use Rattle.std.specs.List.{range_with_len, filter}
use Rattle.std.specs.Set.{distinct_count}
use Rattle.std.specs.Cmp.Lexicographic.{pointwise}

-- The number of distinct lists among b first, .., b (first + count - 1), without those for which
-- the test p is true.
unfoldable pub count_different_but : (List ℕ → Bool) → (ℕ → List ℕ) → ℕ → ℕ → ℕ
count_different_but p b first count =
    distinct_count (pointwise nat_eq) (filter (λ x. not (p x)) (map b (range_with_len first count)))
