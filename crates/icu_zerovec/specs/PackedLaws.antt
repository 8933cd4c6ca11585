-- The bytes of a number determine it. These are lemmas that no contract uses. They are among the
-- specs because the laws of an `impl`, in `integers` and `code_point`, may use nothing else of this
-- crate.
use Rattle.std.specs.Prelude.{◌≡◌, ℕ, ◌/◌, ◌^◌, ◌<◌, Some, None, ℤ, FitsSigned, if◌then◌else◌}
use Rattle.std.specs.Int.{w8, w16, w32, cast_signed, cast_unsigned, bytes_low_first}
use Rattle.std.specs.Char.{IsScalar}
use Rattle.std.proofs.Math.Nat.{mod-lt}
use Rattle.std.proofs.Common.{zero, suc, lit<, arith, ◌∙◌, ap}
use Rattle.std.proofs.lemmas.Int.{to_z-of_z}
use Rattle.std.proofs.Math.Utf8.{scalar, scalar_cases}
use Rattle.std.proofs.Math.Facts.{Fits-of_z}
use Rattle.icu_zerovec.specs.PackedBytes.{AreBytes, low_bytes, number_of, if_passes, scalar_of}

-- ---- packing a number of k bytes and reading the bytes returns the number
-- One byte.
pub number_of-1 : (x : ℕ) → x < 2 ^ 8 → number_of 1 (low_bytes 1 x) ≡ x
number_of-1 x h = omega arith

-- Two bytes.
pub number_of-2 : (x : ℕ) → x < 2 ^ 16 → number_of 2 (low_bytes 2 x) ≡ x
number_of-2 x h = omega arith

-- Three bytes.
pub number_of-3 : (x : ℕ) → x < 2 ^ 24 → number_of 3 (low_bytes 3 x) ≡ x
number_of-3 x h = omega arith

-- Four bytes.
pub number_of-4 : (x : ℕ) → x < 2 ^ 32 → number_of 4 (low_bytes 4 x) ≡ x
number_of-4 x h = omega arith

-- ---- the same for signed numbers, in two's complement
-- One byte.
pub signed-1 : (z : ℤ) → FitsSigned w8 z
    → cast_signed w8 (number_of 1 (low_bytes 1 (cast_unsigned w8 z))) ≡ z
signed-1 z h = ap (cast_signed w8) (number_of-1 (cast_unsigned w8 z) (Fits-of_z h).fits)
    ∙ to_z-of_z w8 z h

-- Two bytes.
pub signed-2 : (z : ℤ) → FitsSigned w16 z
    → cast_signed w16 (number_of 2 (low_bytes 2 (cast_unsigned w16 z))) ≡ z
signed-2 z h = ap (cast_signed w16) (number_of-2 (cast_unsigned w16 z) (Fits-of_z h).fits)
    ∙ to_z-of_z w16 z h

-- Four bytes.
pub signed-4 : (z : ℤ) → FitsSigned w32 z
    → cast_signed w32 (number_of 4 (low_bytes 4 (cast_unsigned w32 z))) ≡ z
signed-4 z h = ap (cast_signed w32) (number_of-4 (cast_unsigned w32 z) (Fits-of_z h).fits)
    ∙ to_z-of_z w32 z h

-- ---- a scalar value has 21 bits, so three bytes are enough
-- The greatest scalar value is 0x10FFFF.
scalar_below : (x : ℕ) → IsScalar x → x < 2 ^ 24
scalar_below x h = let c = scalar_cases x h in grind arith

-- Packing a scalar value in three bytes and reading them returns the value.
pub scalar-3 : (x : ℕ) → IsScalar x → scalar_of (low_bytes 3 x) ≡ Some x
scalar-3 x h = ap (if_passes scalar) (number_of-3 x (scalar_below x h))
    ∙ ap (λ b. if b then Some x else None) h

-- ---- the bytes of a number are below 256
-- From byte j on.
low_first-small : (j k n : ℕ) → AreBytes (bytes_low_first j k n)
low_first-small j zero n i = lit< tt
low_first-small zero (suc k) n zero = omega arith
low_first-small (suc j) (suc k) n zero = mod-lt (n / 256 ^ suc j) (lit< tt)
low_first-small j (suc k) n (suc i) = low_first-small (suc j) k n i

-- The lowest k bytes of a number are bytes.
pub low_bytes-small : (k n : ℕ) → AreBytes (low_bytes k n)
low_bytes-small k n = low_first-small 0 k n
