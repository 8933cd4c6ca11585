-- What an iterator still yields, computed from its fields. No public contract uses these
-- definitions.
use Rattle.std.specs.Prelude.{ℕ, ◌-◌, ◌%◌, ◌≡◌, List, [], ◌∷◌, ◌++◌, length, Option, Some, None, nat_lt, if◌then◌else◌}
use Rattle.std.specs.List.{filter, range_with_len}
use Rattle.std.proofs.Math.Utf8.{scalar}
use Rattle.icu_zerovec.specs.Cells.{values_of}
use Rattle.icu_zerovec.specs.CodePoints.{code_point_limit}
use Rattle.icu_zerovec.specs.PackedBytes.{number_of}
use Rattle.icu_invlist.specs.InversionList.{IsValid, members, toggle_back}

-- The boundaries that are packed in these bytes, three bytes each.
abbrev pub ends_in : List ℕ → List ℕ
ends_in bytes = values_of (λ b. Some (number_of 3 b)) 3 bytes

-- The bytes are the packed boundaries of a set: six bytes for each range.
pub record ArePackedEnds (bytes : List ℕ) : Type 0 where
  pub whole : length bytes % 6 ≡ 0
  pub valid : IsValid (ends_in bytes)

-- The boundaries of the gaps of a set, from the start of the next gap and the set's boundaries
-- after it.
abbrev pub gaps_left : Option ℕ → List ℕ → List ℕ
gaps_left None ends = []
gaps_left (Some start) ends = start ∷ toggle_back ends

-- The next gap starts at the exclusive end of a range, if that is below the end of the code space.
abbrev pub start_at : Option ℕ → Option ℕ
start_at None = None
start_at (Some end) = if nat_lt end code_point_limit then Some end else None

-- The characters from `next` to before `end`, those in the ranges with the boundaries `ends`, and
-- those from `last_start` to before `last_end`.
abbrev pub characters_left : ℕ → ℕ → List ℕ → ℕ → ℕ → List ℕ
characters_left next end ends last_start last_end =
    filter scalar (range_with_len next (end - next) ++ (members ends ++ range_with_len last_start (last_end - last_start)))
