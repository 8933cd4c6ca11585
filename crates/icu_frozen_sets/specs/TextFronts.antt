-- Bytes that may be ill-formed UTF-8, and their longest valid prefix.
use Rattle.std.specs.Prelude.{ℕ, ◌<◌, ◌≤◌, List, length, take}
use Rattle.std.specs.Str.{IsUtf8}

-- The first n bytes are the longest prefix that is valid UTF-8: all bytes, or those before the
-- first ill-formed sequence.
pub record IsTextUpTo (bytes : List ℕ) (n : ℕ) : Type 0 where
  pub within : n ≤ length bytes
  pub front : IsUtf8 (take n bytes)
  pub longest : (m : ℕ) → n < m → m ≤ length bytes → ¬ (IsUtf8 (take m bytes))
