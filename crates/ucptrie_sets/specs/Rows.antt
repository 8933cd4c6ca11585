-- A set as rows of `ucptab`.
use Rattle.std.specs.Prelude.{ℕ, List, [], ◌∷◌, ◌++◌, nat_lt, if◌then◌else◌}
use Rattle.std.specs.List.{flat_map}
use Rattle.std.specs.declared.ops.RangeInclusive.{RangeInclusive}
use Rattle.icu_invlist.specs.InversionList.{ranges_of}
use Rattle.ucptab_table.specs.TableText.{hex_text}

-- The row of a code point, `HEX;1` LF.
abbrev pub point_row : ℕ → List ℕ
point_row c = hex_text c ++ (59 ∷ (49 ∷ (10 ∷ [])))

-- The row of a range, `HEX..HEX;1` LF, or that of its code point if it has one.
unfoldable pub range_row : RangeInclusive ℕ → List ℕ
range_row r =
    if nat_lt r.start r.end then hex_text r.start ++ (46 ∷ (46 ∷ point_row r.end))
    else point_row r.end

-- The rows of the set's ranges, in order.
abbrev pub rows_of : List ℕ → List ℕ
rows_of set = flat_map range_row (ranges_of set)
