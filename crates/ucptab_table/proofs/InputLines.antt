-- The lines of the input.
use Rattle.std.proofs.Common.{◌≡◌, ℕ, ◌+◌, ◌<◌, ◌≤◌, ◌==◌, List, [], ◌∷◌, length, take, drop, refl, arith}
use Rattle.std.specs.List.{slice_split, position_or_len}
use Rattle.std.specs.Str.Lines.{lines, lines_of_parts, strip_carriage_return}
use Rattle.std.proofs.lemmas.List.Splits.{slice_split_first, slice_split_none, length-slice_split}
use Rattle.std.proofs.Math.Dec.{eqb-suc-zero}
use Rattle.std.proofs.lemmas.List.Sums.{fails_before_first}

-- a part with another after it is a line
first_part : (part : List ℕ) (parts : List (List ℕ)) → 0 < length parts
    → lines_of_parts (part ∷ parts) ≡ strip_carriage_return part ∷ lines_of_parts parts
first_part part [] some = absurd (omega arith)
first_part part (next ∷ parts) some = refl

only_part : (part : List ℕ) → 0 < length part → lines_of_parts (part ∷ []) ≡ part ∷ []
only_part [] some = absurd (omega arith)
only_part (b ∷ part) some = rw (eqb-suc-zero (length part)) refl

-- the first line ends at the first LF
pub lines_first : (bytes : List ℕ) (place : ℕ) → place ≡ position_or_len (λ b. b == 10) bytes → place < length bytes
    → lines bytes ≡ strip_carriage_return (take place bytes) ∷ lines (drop (place + 1) bytes)
lines_first bytes place is within =
    let first = slice_split_first (λ b. b == 10) bytes 0 (rw (← is) within) in
    let more : 0 < length (slice_split (λ b. b == 10) (drop (place + 1) bytes)) =
    omega (arith, length-slice_split (λ b. b == 10) (drop (place + 1) bytes)) in
    rw (first, ← is) (first_part _ _ more)

-- with no LF the input is one line
pub lines_last : (bytes : List ℕ) → length bytes ≤ position_or_len (λ b. b == 10) bytes → 0 < length bytes → lines bytes ≡ bytes ∷ []
lines_last bytes none some =
    rw (slice_split_none (λ b. b == 10) bytes (λ k d within. fails_before_first (λ b. b == 10) bytes k d (omega (arith, within))))
    (only_part bytes some)
