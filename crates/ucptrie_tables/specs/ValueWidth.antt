-- How many bits and how many bytes a value has, and the first value that has too many bits.
use Rattle.std.specs.Prelude.{ℕ, ◌^◌, nat_lt, not, List, Option, if◌then◌else◌}
use Rattle.std.specs.List.{find}
use Rattle.ucptrie_tables.specs.declared.width.ValueWidth.{ValueWidth}
use Rattle.ucptrie_tables.specs.declared.width.ValueWidth.TheVariants.{Bits8, Bits16, Bits32}

-- How many bytes a value of this width has.
abbrev pub bytes_of : ValueWidth → ℕ
bytes_of Bits8 = 1
bytes_of Bits16 = 2
bytes_of Bits32 = 4

-- How many bits a value of this width has.
abbrev pub bits_of : ValueWidth → ℕ
bits_of Bits8 = 8
bits_of Bits16 = 16
bits_of Bits32 = 32

-- ICU's number of a width (UCPTRIE_VALUE_BITS_16, _32 and _8).
abbrev pub code_of : ValueWidth → ℕ
code_of Bits8 = 2
code_of Bits16 = 0
code_of Bits32 = 1

-- The first of the values that has more bits than the width, if one has.
abbrev pub first_wider : ValueWidth → List ℕ → Option ℕ
first_wider w values = find (λ v. not (nat_lt v (2 ^ bits_of w))) values

-- The fewest bits that a value fits.
abbrev pub width_of : ℕ → ValueWidth
width_of v = if nat_lt v 0x100 then Bits8 else (if nat_lt v 0x10000 then Bits16 else Bits32)
