-- When no set can be made from a list of boundaries or from a range.
use Rattle.std.specs.Prelude.{ℕ, ◌≡◌, ◌<◌, List, min, map}
use Rattle.icu_invlist.specs.InversionList.{IsValid}
use Rattle.icu_invlist.specs.declared.codepointinvlist.error.SetError.{SetError}
use Rattle.icu_invlist.specs.declared.codepointinvlist.error.SetError.TheVariants as set
use Rattle.icu_invlist.specs.declared.codepointinvlist.error.TryRangeError.{TryRangeError}
use Rattle.icu_invlist.specs.declared.codepointinvlist.error.TryRangeError.TheVariants as range

-- A packed list is rejected if it is not an inversion list. The error contains the list, or is
-- `Memory` if allocating the copy for the error failed. A valid list never causes an error.
abbrev pub IsRefusedList : List ℕ → SetError → Type 0
IsRefusedList ends (set.Invalid e) = (¬ (IsValid ends)) × (e.0.items ≡ ends)
IsRefusedList ends set.Memory = ¬ (IsValid ends)

-- A slice is rejected if it is not an inversion list. The error contains its numbers, with 0xFFFFFF
-- in place of any number above it. `Memory` is possible in any case.
abbrev pub IsRefusedSlice : List ℕ → SetError → Type 0
IsRefusedSlice ends (set.Invalid e) =
    (¬ (IsValid ends)) × (e.0.items ≡ map (λ x. min x 0xFFFFFF) ends)
IsRefusedSlice ends set.Memory = Unit {0}

-- A range is rejected if it is empty or reversed. The error contains its start and its exclusive
-- end.
abbrev pub IsRefusedRange : ℕ → ℕ → TryRangeError → Type 0
IsRefusedRange start end (range.Invalid e) = (¬ (start < end)) × (e.0 ≡ start) × (e.1 ≡ end)
IsRefusedRange start end range.Memory = start < end
