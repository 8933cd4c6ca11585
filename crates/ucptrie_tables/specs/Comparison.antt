-- The first difference of two byte strings.
use Rattle.std.specs.Prelude.{◌≡◌, ◌≢◌, ℕ, ◌==◌, List, take, slice_get}
use Rattle.std.specs.List.{count_by}

-- The first n bytes are equal, and the next ones are not. One of the two may have ended.
pub record IsFirstDifference (found wanted : List ℕ) (n : ℕ) : Type 0 where
  pub same : take n found ≡ take n wanted
  pub other : slice_get found n ≢ slice_get wanted n

-- How many line feeds there are.
abbrev pub line_feeds : List ℕ → ℕ
line_feeds bytes = count_by (λ b. b == 10) bytes
