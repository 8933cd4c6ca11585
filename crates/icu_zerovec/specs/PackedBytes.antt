-- Numbers as bytes, lowest byte first (little-endian), and code points in three bytes.
use Rattle.std.specs.Prelude.{ℕ, ◌-◌, ◌^◌, ◌<◌, List, slice_index, Option, Some, None, Bool, if◌then◌else◌}
use Rattle.std.specs.Int.{bytes_low_first, sum_through, byte_worth}
use Rattle.std.proofs.Math.Utf8.{scalar}

-- Each number in the list is a byte.
abbrev pub AreBytes : List ℕ → Type 0
AreBytes b = (i : ℕ) → slice_index b i < 2 ^ 8

-- The lowest k bytes of a number, lowest first: 0x1234 in two bytes is 0x34, 0x12.
abbrev pub low_bytes : ℕ → ℕ → List ℕ
low_bytes k n = bytes_low_first 0 k n

-- The number with these k bytes, lowest first: the sum of byte i times 256 to the power i.
abbrev pub number_of : ℕ → List ℕ → ℕ
number_of k b = sum_through (λ i. byte_worth i (slice_index b i)) (k - 1)

-- The number, if it passes the test.
abbrev pub if_passes : (ℕ → Bool) → ℕ → Option ℕ
if_passes p n = if p n then Some n else None

-- The number of three bytes, if it is a Unicode scalar value: below 0xD800, or from 0xE000 to
-- 0x10FFFF inclusive.
abbrev pub scalar_of : List ℕ → Option ℕ
scalar_of b = if_passes scalar (number_of 3 b)
