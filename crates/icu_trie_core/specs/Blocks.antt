-- Aligned blocks of a list or of a map from code points, and the number of distinct ones.
use Rattle.std.specs.Prelude.{ℕ, ◌*◌, List, take, drop, map, nat_eq}
use Rattle.std.specs.List.{range_with_len}
use Rattle.std.specs.Set.{distinct_count}
use Rattle.std.specs.Cmp.Lexicographic.{pointwise}

-- The k elements starting at index `at`.
abbrev pub window : {T : Type 0} → ℕ → ℕ → List T → List T
window k at xs = take k (drop at xs)

-- Block number j of a list that is cut into blocks of k elements.
abbrev pub block : {T : Type 0} → ℕ → List T → ℕ → List T
block k xs j = window k (k * j) xs

-- The values of a map in block number j, if the code points are cut into blocks of k.
unfoldable pub block_of : {T : Type 0} → ℕ → (ℕ → T) → ℕ → List T
block_of k f j = map f (range_with_len (k * j) k)

-- The number of distinct lists among b first, b (first + 1), .., b (first + count - 1).
unfoldable pub count_different : (ℕ → List ℕ) → ℕ → ℕ → ℕ
count_different b first count =
    distinct_count (pointwise nat_eq) (map b (range_with_len first count))
