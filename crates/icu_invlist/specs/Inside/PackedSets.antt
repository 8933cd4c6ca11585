-- What functions read of the packed boundaries of a set. No public contract uses these definitions.
use Rattle.std.specs.Prelude.{ℕ, ◌+◌, ◌-◌, ◌*◌, List, [], ◌∷◌, take, drop}
use Rattle.std.specs.Int.{w32, from_le_bytes}

-- The last four bytes of the first n boundaries, as a number, lowest byte first.
abbrev pub word_before : List ℕ → ℕ → ℕ
word_before bytes n = from_le_bytes w32 (take 4 (drop (3 * n - 4) bytes))

-- The sum of the sizes of the ranges between these boundaries.
abbrev pub sum_of_sizes : List ℕ → ℕ
sum_of_sizes [] = 0
sum_of_sizes (start ∷ []) = 0
sum_of_sizes (start ∷ end ∷ ends) = (end - start) + sum_of_sizes ends
