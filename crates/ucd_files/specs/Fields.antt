-- The fields of a line of a file of the Unicode Character Database. Bytes are numbers, as 59 for
-- `;` and 9 for a tab.
use Rattle.std.specs.Prelude.{ℕ, zero, suc, Bool, ◌==◌, ◌||◌, nat_eq, nat_le, List, drop, Option, Some, None, codes, if◌then◌else◌}
use Rattle.std.specs.List.{count_by, starts_with, ends_with}
use Rattle.ucptab_table.specs.TableText.{after, before, content_of, trimmed}

-- Part n of a line, counted from 0: the bytes between two separators, without blanks around them.
-- It is empty if the line has fewer parts.
abbrev pub part : ℕ → ℕ → List ℕ → List ℕ
part separator zero content = trimmed (before separator content)
part separator (suc n) content = part separator n (after separator content)

-- Field n of a line: a part between two semicolons.
abbrev pub field : ℕ → List ℕ → List ℕ
field n content = part 59 n content

-- Column n of a line of Unihan: a part between two tabs.
abbrev pub column : ℕ → List ℕ → List ℕ
column n content = part 9 n content

-- The line has field n: at least n semicolons.
unfoldable pub has_field : ℕ → List ℕ → Bool
has_field n content = nat_le n (count_by (λ b. b == 59) content)

-- What follows `U+` in a text that starts with it.
unfoldable pub after_mark : List ℕ → Option (List ℕ)
after_mark text = if starts_with nat_eq text (codes "U+") then Some (drop 2 text) else None

-- What follows `# @missing:` in a line that starts with it, without a further comment and without
-- blanks around it. None for any other line.
unfoldable pub missing_of : List ℕ → Option (List ℕ)
missing_of line = if starts_with nat_eq line (codes "# @missing:")
    then Some (content_of (drop 11 line)) else None

-- The name in field 1 ends in `, First>`. UnicodeData.txt has a range in two lines, this and the
-- next one.
unfoldable pub ends_in_first : List ℕ → Bool
ends_in_first content = ends_with nat_eq (field 1 content) (codes ", First>")

-- The name in field 1 ends in `, Last>`.
unfoldable pub ends_in_last : List ℕ → Bool
ends_in_last content = ends_with nat_eq (field 1 content) (codes ", Last>")

-- The text ends as the name of the first or the last code point of a range in two lines.
unfoldable pub marks_range : List ℕ → Bool
marks_range text =
    ends_with nat_eq text (codes ", First>") || ends_with nat_eq text (codes ", Last>")
