-- A list of texts and values.
use Rattle.std.specs.Prelude.{ℕ, ℤ, List, String, string_bytes}
use Rattle.std.specs.Global.{Global}

-- The bytes of a text, and its value.
abbrev pub bytes_and_number : String Global × ℤ → List ℕ × ℤ
bytes_and_number y = (string_bytes y.0, y.1)
