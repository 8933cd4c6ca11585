-- The bytes of a byte string.
use Rattle.std.proofs.Common.{◌≡◌, ℕ, ◌^◌, ◌-◌, false, [], append-nil}
use Rattle.std.specs.Fmt.{digits, padded_integral, format_spec, char_count}
use Rattle.std.proofs.Math.Nat.{sub-zero}
use Rattle.ucptab_table.specs.Messages.{byte_text}

-- `{:02x}`
pub byte_written : (n : ℕ) → padded_integral (format_spec 32 0 4 2 (2 ^ 64 - 1)) false [] (digits 16 false n) ≡ byte_text n
unfolding padded_integral byte_text char_count
byte_written n = simp (sub-zero, append-nil)
