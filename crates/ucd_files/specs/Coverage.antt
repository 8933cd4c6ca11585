-- Which code points have a value in a file.
use Rattle.std.specs.Prelude.{◌≡◌, ◌<◌, ℕ, Bool, true, List, is_some}
use Rattle.icu_trie_builder.specs.Writes.{last_written}
use Rattle.icu_trie_builder.specs.declared.writes.Write.{Write}
use Rattle.icu_zerovec.specs.CodePoints.{code_point_limit}

-- A write covers the code point, so that it has a value.
abbrev pub has_value : List (Write ℕ) → ℕ → Bool
has_value writes c = is_some (last_written writes c)

-- Each code point has a value.
abbrev pub CoverAll : List (Write ℕ) → Type 0
CoverAll writes = (c : ℕ) → c < code_point_limit → has_value writes c ≡ true
