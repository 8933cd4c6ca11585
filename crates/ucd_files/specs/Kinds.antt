-- Which kind of file some lines are.
use Rattle.std.specs.Prelude.{◌≡◌, ℕ, ◌==◌, ◌&&◌, ◌||◌, nat_eq, nat_le, not, Bool, List, [], ◌∷◌, codes, length, Option, Some, None, is_some, false, true, if◌then◌else◌}
use Rattle.std.specs.Char.{is_ascii_digit}
use Rattle.std.specs.List.{count_by, list_all, list_any, starts_with}
use Rattle.std.specs.Str.Lines.{lines}
use Rattle.ucptab_table.specs.TableText.{content_of, hexadecimal}
use Rattle.ucd_files.specs.Fields.{after_mark, has_field, missing_of}
use Rattle.ucd_files.specs.Statements.{missing_text}
use Rattle.ucd_files.specs.Titles.{title_of}
use Rattle.ucd_files.specs.ValueNames.{text_of_line}
use Rattle.ucd_files.specs.declared.kind.FileKind.{FileKind}
use Rattle.ucd_files.specs.declared.statement.Columns.{Columns}
use Rattle.ucd_files.specs.declared.kind.FileKind.TheVariants.{Rows, UnicodeData, Properties, CodePoints, Unihan}

-- The content of the first line that has any.
abbrev pub first_content : List (List ℕ) → List ℕ
first_content [] = []
first_content (line ∷ more) =
    if length (content_of line) == 0 then first_content more else content_of line

-- The line is of a file of Unihan: it starts with `U+` and has a tab.
unfoldable pub is_of_unihan : List ℕ → Bool
is_of_unihan content = is_some (after_mark content) && list_any (λ b. b == 9) content

-- A line is an `@missing` line, about whichever property.
abbrev pub has_missing_line : List ℕ → Bool
has_missing_line input = list_any (λ line. is_some (missing_of line)) (lines input)

-- A line has content, or is an `@missing` line.
unfoldable pub has_values : List ℕ → Bool
has_values input = not (length (first_content (lines input)) == 0) || has_missing_line input

-- A line has a field after its code points.
abbrev pub has_fields : List ℕ → Bool
has_fields input = list_any (λ line. has_field 1 (content_of line)) (lines input)

-- No line of the file has a value, so a list of code points drops none.
pub record HasNoValue (input : List ℕ) : Type 0 where
  pub in_lines : has_fields input ≡ false
  pub in_missing_lines : has_missing_line input ≡ false

-- The kind of a file. No standard says how to tell the kinds apart, so this is a heuristic, and the
-- user can name the kind. UnicodeData.txt has 14 semicolons in its first line with content. Other
-- files of the Unicode Character Database have a title. If no line has a value, they are lists of
-- code points. Lines without a title have properties if `@missing` lines or the user say so; else
-- they are rows. The readers of each kind reject the lines of the others.
unfoldable pub kind_of : Bool → List ℕ → FileKind
kind_of has_properties input = let content = first_content (lines input) in
    if count_by (λ b. b == 59) content == 14 then UnicodeData
    else (if is_of_unihan content then Unihan
    else (if is_some (title_of input)
    then (if has_fields input || has_missing_line input then Properties else CodePoints)
    else (if has_properties || has_missing_line input then Properties else Rows)))

-- The line has no value, or one of decimal digits alone, however many.
unfoldable pub has_decimal : Columns → List ℕ → Bool
has_decimal columns line = is_decimal (text_of_line columns line) where
  is_decimal : Option (List ℕ) → Bool
  is_decimal None = true
  is_decimal (Some text) = list_all is_ascii_digit text

-- The line has no value, or one that is a code point as the Unicode Character Database writes it,
-- in 4 to 6 hexadecimal digits.
unfoldable pub has_code_point : Columns → List ℕ → Bool
has_code_point columns line = is_code_point (text_of_line columns line) where
  is_code_point : Option (List ℕ) → Bool
  is_code_point None = true
  is_code_point (Some text) =
      (nat_le 4 (length text) && nat_le (length text) 6) && is_some (hexadecimal text)

-- The line has a value that starts with `0`, as code points below 1000 do, since the Unicode
-- Character Database writes at least 4 digits.
unfoldable pub has_leading_zero : Columns → List ℕ → Bool
has_leading_zero columns line = has_zero (text_of_line columns line) where
  has_zero : Option (List ℕ) → Bool
  has_zero None = false
  has_zero (Some text) = starts_with nat_eq text (codes "0")

-- The line says which value code points without a line have, for the property that is read.
abbrev pub says_missing_text : Columns → Option (List ℕ) → Bool
says_missing_text columns (Some content) = is_some (missing_text columns content)
says_missing_text columns None = false

-- The same from the line.
unfoldable pub says_missing : Columns → List ℕ → Bool
says_missing columns line = says_missing_text columns (missing_of line)
