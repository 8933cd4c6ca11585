-- The blocks of 64 code points of two bytes in UTF-8.
use Rattle.std.specs.Prelude.{◌≡◌, ℕ, ◌<◌, List, [], slice_get, slice_index_or, Some}
use Rattle.std.specs.Int.{w16, from_le_bytes}

-- The cells are the first 32 of the index, of two bytes each.
abbrev pub AreFirstOffsets : List ℕ → List (List ℕ) → Type 0
AreFirstOffsets index cells = (block : ℕ) → block < 32
    → slice_get index block ≡ Some (from_le_bytes w16 (slice_index_or cells block []))
