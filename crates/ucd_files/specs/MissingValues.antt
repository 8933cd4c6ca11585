-- The values of code points without a line.
use Rattle.std.specs.Prelude.{◌≡◌, ℕ, nat_le, not, Bool, true, false, List, [], length, Option, Some, None, is_some, if◌then◌else◌}
use Rattle.std.specs.Char.{is_ascii_digit}
use Rattle.std.specs.List.{filter, filter_map, find, list_all}
use Rattle.std.specs.Option.{option_and_then, option_map}
use Rattle.std.specs.Str.Lines.{lines}
use mathlib.Core.Bool.{beq}
use Rattle.ucd_files.specs.Fields.{missing_of}
use Rattle.ucd_files.specs.Coverage.{CoverAll}
use Rattle.ucd_files.specs.Files.{AreStatements, writes_of}
use Rattle.ucd_files.specs.Names.{is_by_names, number_of}
use Rattle.ucd_files.specs.ValueNames.{is_known, missing_alias, names_after, text_of_line}
use Rattle.ucd_files.specs.declared.missing_values.MissingValue.{MissingValue}
use Rattle.ucd_files.specs.declared.missing_values.MissingValue.TheVariants.{InLines, Number, Numbers, Unsaid}
use Rattle.ucd_files.specs.declared.names.Numbering.{Numbering}
use Rattle.ucd_files.specs.declared.statement.Columns.{Columns}
use Rattle.ucd_files.specs.declared.statement.Statement.{Statement}

-- ---- Names in `@missing` lines

-- The texts of values in `@missing` lines or in the other lines, each once, in order of first
-- appearance.
abbrev pub texts_in : Bool → Columns → List ℕ → List (List ℕ × ℕ)
texts_in are_missing columns input = names_after [] (filter_map (text_of_line columns)
    (filter (λ line. beq (is_some (missing_of line)) are_missing) (lines input)))

-- The first of the texts that is not one of the others.
abbrev pub first_other : List (List ℕ × ℕ) → List (List ℕ × ℕ) → Option (List ℕ)
first_other names others =
    option_map (λ name. name.0) (find (λ name. not (is_known others name.0)) names)

-- The first text that only `@missing` lines have, if these have at least two texts. A file with
-- such a text, as DerivedBidiClass.txt, has long names there and short ones in other lines. This
-- is a heuristic: only the file of aliases has all names of a value.
unfoldable pub only_missing : Columns → List ℕ → Option (List ℕ)
only_missing columns input = if nat_le 2 (length (texts_in true columns input))
    then first_other (texts_in true columns input) (texts_in false columns input) else None

-- The first of the texts that does not have decimal digits alone.
abbrev pub first_name : List (List ℕ × ℕ) → Option (List ℕ)
first_name names =
    option_map (λ name. name.0) (find (λ name. not (list_all is_ascii_digit name.0)) names)

-- The first text in an `@missing` line that is no number, if the other lines have only numbers, as
-- DerivedCombiningClass.txt.
unfoldable pub only_name : Columns → List ℕ → Option (List ℕ)
only_name columns input = if is_some (first_name (texts_in false columns input)) then None
    else first_name (texts_in true columns input)

-- ---- What says the value of code points without a line

-- The number of the value that the file of aliases names in its own `@missing` line.
abbrev pub alias_number : Numbering → List ℕ → List ℕ → Option ℕ
alias_number numbering property aliases =
    option_and_then (number_of numbering) (missing_alias property aliases)

module _ (columns : Columns) (numbering : Numbering) (input property aliases : List ℕ) where
  -- Values have names, and the lines of the file leave a code point without a value.
  pub record IsIncomplete : Type 0 where
    pub by_names : is_by_names numbering ≡ true
    pub statements : List Statement
    pub said : AreStatements columns numbering input statements
    pub left_out : ¬ CoverAll (writes_of statements)

  -- Values have names, and the lines of the file give each code point a value.
  pub record IsComplete : Type 0 where
    pub by_names : is_by_names numbering ≡ true
    pub statements : List Statement
    pub said : AreStatements columns numbering input statements
    pub covered : CoverAll (writes_of statements)

  -- What says which value code points without a line have: the file itself, or else the file of
  -- aliases, or nothing. Numbers need nothing.
  abbrev pub IsMissingValue : MissingValue → Type 0
  IsMissingValue Numbers = is_by_names numbering ≡ false
  IsMissingValue InLines = IsComplete
  IsMissingValue (Number n) = IsIncomplete × (alias_number numbering property aliases ≡ Some n)
  IsMissingValue Unsaid = IsIncomplete × (alias_number numbering property aliases ≡ None)
