-- Units of 16 bits in bytes.
use Rattle.std.specs.Prelude.{ℕ, List, Some}
use Rattle.icu_zerovec.specs.Cells.{values_of}
use Rattle.icu_zerovec.specs.PackedBytes.{number_of}

-- The units in the bytes, two bytes each, the low byte first. An odd last byte is no unit.
abbrev pub units_of : List ℕ → List ℕ
units_of bytes = values_of (λ cell. Some (number_of 2 cell)) 2 bytes
