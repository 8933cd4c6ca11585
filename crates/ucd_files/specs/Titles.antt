-- What a file says of itself. Bytes are numbers, as 10 for LF and 13 for CR.
use Rattle.std.specs.Prelude.{ℕ, ◌&&◌, ◌||◌, nat_eq, List, drop, length, Option, Some, None, codes, if◌then◌else◌}
use Rattle.std.specs.List.{starts_with, ends_with}
use Rattle.ucptab_table.specs.TableText.{before, trimmed}

-- The title of a file of the Unicode Character Database: the first line without `# `, if it is a
-- comment that ends in `.txt`, as `# Scripts-15.0.0.txt`.
unfoldable pub title_of : List ℕ → Option (List ℕ)
title_of input = let line = before 13 (before 10 input) in
    if starts_with nat_eq line (codes "# ") && ends_with nat_eq line (codes ".txt")
    then Some (drop 2 line) else None

-- What follows a mark at the start of a line, without blanks around it.
unfoldable pub after_prefix : List ℕ → List ℕ → Option (List ℕ)
after_prefix mark line = if starts_with nat_eq line mark
    then Some (trimmed (drop (length mark) line)) else None

-- A line with the version of ICU or of Unicode in a TOML file of ICU's icuexportdata.
unfoldable pub version_of : List ℕ → Option (List ℕ)
version_of line = if starts_with nat_eq line (codes "icu_version = ")
    || starts_with nat_eq line (codes "unicode_version = ") then Some (trimmed line) else None

-- The version in a line of a file whose title has none, as `# Version: 15.0` or
-- `# Used with Emoji Version 15.0`: the line from `Version` or `Emoji` on.
unfoldable pub edition_of : List ℕ → Option (List ℕ)
edition_of line = if starts_with nat_eq line (codes "# Version: ")
    then after_prefix (codes "# ") line else after_prefix (codes "# Used with ") line

-- The first of two that is there.
abbrev pub first_some : Option (List ℕ) → Option (List ℕ) → Option (List ℕ)
first_some None second = second
first_some (Some text) second = Some text

-- What a line says of its file: the date or the version in a file of the Unicode Character
-- Database; the name, and the versions of ICU and Unicode, in a TOML file of ICU's icuexportdata.
-- None for any other line.
unfoldable pub note_of : List ℕ → Option (List ℕ)
note_of line = first_some (after_prefix (codes "# Date: ") line)
    (first_some (edition_of line)
    (first_some (after_prefix (codes "# file name: ") line) (version_of line)))
