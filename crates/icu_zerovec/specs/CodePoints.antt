-- The code space of Unicode.
use Rattle.std.specs.Prelude.{ℕ}

-- One more than the last code point, 0x10FFFF.
abbrev pub code_point_limit : ℕ
code_point_limit = 0x110000
