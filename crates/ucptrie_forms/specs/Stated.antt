-- The comments among rows that state the null value and the error value of a table, which rows do
-- not have: `# null value: N` and `# error value: N`, as `ucptrie show` prints them.
use Rattle.std.specs.Prelude.{◌≡◌, ℕ, nat_eq, List, ◌++◌, codes, decimal, drop, length, slice_get, Option, Some, None, if◌then◌else◌}
use Rattle.std.specs.List.{filter_map, starts_with}
use Rattle.std.specs.Option.{unwrap_or}
use Rattle.std.specs.Str.Lines.{lines}
use Rattle.icu_trie.specs.Parts.{Parts, last_cell}
use Rattle.ucd_files.specs.Names.{short_decimal}
use Rattle.ucptrie_tables.specs.Shown.{comment_line}

-- What a line that states a number under a name starts with: `# NAME: `.
abbrev pub mark_of : List ℕ → List ℕ
mark_of name = codes "# " ++ (name ++ codes ": ")

-- The number after a mark at the start of a line, in 1 to 10 decimal digits and of at most 32 bits.
-- None for any other line.
unfoldable pub number_after : List ℕ → List ℕ → Option ℕ
number_after mark line =
    if starts_with nat_eq line mark then short_decimal (drop (length mark) line) else None

-- The number that a line states under a name: N if the line is `# NAME: N`.
abbrev pub stated_by : List ℕ → List ℕ → Option ℕ
stated_by name line = number_after (mark_of name) line

-- The number that a file states under a name: that of its first line that states one.
abbrev pub stated : List ℕ → List ℕ → Option ℕ
stated name file = slice_get (filter_map (stated_by name) (lines file)) 0

-- The comment that states a number under a name: the line `# NAME: N`.
abbrev pub stating_line : List ℕ → ℕ → List ℕ
stating_line name n = comment_line (codes " " ++ (name ++ (codes ": " ++ decimal n)))

-- The comments that state the null value and the error value of a trie.
abbrev pub stating_lines : Parts ℕ → List ℕ
stating_lines t = stating_line (codes "null value") t.header.null_value
    ++ stating_line (codes "error value") (unwrap_or (last_cell t.values) 0)

-- The file states the null value and the error value of a trie.
pub record StatesValues (t : Parts ℕ) (file : List ℕ) : Type 0 where
  pub null : stated (codes "null value") file ≡ Some t.header.null_value
  pub error : stated (codes "error value") file ≡ last_cell t.values
