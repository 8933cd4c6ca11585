-- What a line says, and what a file says.
use Rattle.std.specs.Prelude.{ℕ, ◌==◌, ◌&&◌, ◌||◌, not, ◌∷◌, false, nat_eq, nat_le, nat_lt, Bool, true, List, [], length, codes, Option, Some, None, Result, Ok, Err, if◌then◌else◌}
use Rattle.std.specs.List.{starts_with}
use Rattle.std.specs.Option.{option_and_then}
use Rattle.icu_zerovec.specs.CodePoints.{code_point_limit}
use Rattle.icu_trie_builder.specs.declared.writes.Write.{Write}
use Rattle.ucptab_table.specs.TableText.{after, before, code_points_of, content_of, first_of, last_of, trimmed, write_at}
use Rattle.ucptab_table.specs.declared.rows.CodePoints.{CodePoints}
use Rattle.ucptab_table.specs.declared.rows.CodePoints.TheVariants.{Single, Span}
use Rattle.ucd_files.specs.Fields.{after_mark, column, ends_in_first, ends_in_last, field, has_field, marks_range, missing_of}
use Rattle.ucd_files.specs.Names.{is_match, is_same_name, number_of}
use Rattle.ucd_files.specs.declared.error.LineError.{LineError}
use Rattle.ucd_files.specs.declared.error.LineError.TheVariants.{Unpaired, SplitRange, NotCodePoints, CodePoint, Reversed, NoValue, UnknownValue}
use Rattle.ucd_files.specs.declared.names.Matching.TheVariants.{Exact}
use Rattle.ucd_files.specs.declared.names.Numbering.{Numbering}
use Rattle.ucd_files.specs.declared.names.Numbering.TheVariants.{One}
use Rattle.ucd_files.specs.declared.statement.Columns.{Columns}
use Rattle.ucd_files.specs.declared.statement.Columns.TheVariants.{Field, Property, SimpleFolding, UnicodeData, Unihan}
use Rattle.ucd_files.specs.declared.statement.Statement.{Statement}
use Rattle.ucd_files.specs.declared.statement.Statement.TheVariants.{Missing, Explicit}

-- ---- Content

-- The content of a line of Unihan: only a line that starts with `#` is a comment, since values can
-- have a `#`.
abbrev pub unihan_content : List ℕ → List ℕ
unihan_content line = if starts_with nat_eq line (codes "#") then [] else trimmed line

-- The content of a line: what comes before `#`, and in a file of Unihan the whole line.
unfoldable pub content_in : Columns → List ℕ → List ℕ
content_in (Unihan name) line = unihan_content line
content_in columns line = content_of line

-- ---- Values

-- Field 2, or field 1 if field 2 is empty.
unfoldable pub later_field : List ℕ → List ℕ
later_field content = if length (field 2 content) == 0 then field 1 content else field 2 content

-- A text that is not empty.
abbrev pub some_text : List ℕ → Option (List ℕ)
some_text text = if length text == 0 then None else Some text

-- Field n if it is not empty. A line that does not have the field has an empty text there, which is
-- a fault.
abbrev pub field_text : ℕ → List ℕ → Option (List ℕ)
field_text n content = if has_field n content then some_text (field n content) else Some []

-- The value of the property in field 1: field 2, or the property itself if the line has no field 2,
-- as in PropList.txt. An empty field 2 is a value of its own, as the empty NFKC_CF of 00AD.
unfoldable pub property_value : List ℕ → List ℕ
property_value content = if has_field 2 content
    then (if length (field 2 content) == 0 then codes "<empty>" else field 2 content)
    else field 1 content

-- The status of a mapping of the simple case folding in CaseFolding.txt: `C` (common) or `S`
-- (simple).
unfoldable pub is_simple : List ℕ → Bool
is_simple (status ∷ []) = status == 67 || status == 83
is_simple status = false

-- The text of the value in a line. None if the line is about another property, or if the field is
-- there and empty: the code points then have the default.
unfoldable pub value_text : Columns → List ℕ → Option (List ℕ)
value_text (Field n) content = field_text n content
value_text (Property name) content =
    if is_same_name (field 1 content) name.now then Some (property_value content) else None
value_text (UnicodeData n) content = field_text n content
value_text (Unihan name) content =
    if is_same_name (column 1 content) name.now then Some (column 2 content) else None
value_text SimpleFolding content =
    if is_simple (field 1 content) then Some (field 2 content) else None

-- A text that is not `<none>`, `<code point>` or `<script>`. In `@missing` lines these mean
-- values that are not written as text: none, the code point itself, the value of Script.
unfoldable pub untagged : List ℕ → Option (List ℕ)
untagged text = if starts_with nat_eq text (codes "<") then None else Some text

-- The same for an `@missing` line, which is `CODE POINTS; VALUE` or `CODE POINTS; PROPERTY; VALUE`.
-- None if the value is not written as text: the code points then have the default.
unfoldable pub missing_text : Columns → List ℕ → Option (List ℕ)
missing_text (Field n) content = untagged (later_field content)
missing_text (Property name) content = option_and_then untagged (value_text (Property name) content)
missing_text (UnicodeData n) content = untagged (later_field content)
missing_text (Unihan name) content = None
missing_text SimpleFolding content = None

-- ---- Code points

-- One range from two lines, which have one code point each.
abbrev pub joined : Option CodePoints → Option CodePoints → Option CodePoints
joined (Some (Single start)) (Some (Single end)) = Some (Span start end)
joined start end = None

-- Code points that are given, are code points and are in order.
unfoldable pub checked_points : Option CodePoints → Result CodePoints LineError
checked_points None = Err NotCodePoints
checked_points (Some points) =
    if nat_le code_point_limit (first_of points) then Err CodePoint
    else (if nat_le code_point_limit (last_of points) then Err CodePoint
    else (if nat_lt (last_of points) (first_of points) then Err Reversed
    else Ok points))

-- The two texts are equal.
abbrev pub is_equal : List ℕ → List ℕ → Bool
is_equal left right = is_match Exact left right

-- Two lines of UnicodeData.txt name one range in field 1, before the comma of `, First>` and
-- `, Last>`, and their values in field n are equal. Fields 0 and 1, the code point and the name,
-- differ in the two lines.
unfoldable pub is_same_range : ℕ → List ℕ → List ℕ → Bool
is_same_range n previous content =
    is_equal (before 44 (field 1 previous)) (before 44 (field 1 content))
    && (nat_le n 1 || is_equal (field n previous) (field n content))

-- In UnicodeData.txt, the line gives the last code point of a range exactly if the line before it
-- gives the first one of the same range (UAX #44, 4.2.3).
unfoldable pub is_paired : Columns → List ℕ → List ℕ → Bool
is_paired (UnicodeData n) previous content = if ends_in_last content
    then ends_in_first previous && is_same_range n (content_of previous) content
    else not (ends_in_first previous)
is_paired columns previous content = true

-- A name in field 1 or 2, or the comment, ends in `, First>` or `, Last>`.
abbrev pub has_range_mark : List ℕ → Bool
has_range_mark line = marks_range (field 1 (content_of line))
    || (marks_range (field 2 (content_of line)) || marks_range (trimmed (after 35 line)))

-- A line with these code points is one of the two lines of a range: it has one code point and such
-- a mark.
abbrev pub is_half : Option CodePoints → List ℕ → Bool
is_half (Some (Single c)) line = has_range_mark line
is_half points line = false

-- The line is one of the two lines of a range in a file that has none by UAX #44, as EastAsianWidth
-- and LineBreak of Unicode 3.0. No line of UnicodeData.txt and Unihan is.
unfoldable pub is_split : Columns → List ℕ → Bool
is_split (UnicodeData n) line = false
is_split (Unihan name) line = false
is_split columns line = is_half (code_points_of (field 0 (content_of line))) line

-- The code points of a line. Those of the second line of a range start at the line before it.
-- Unihan writes a code point after `U+`.
unfoldable pub points_of : Columns → List ℕ → List ℕ → Result CodePoints LineError
points_of (UnicodeData n) previous content =
    checked_points (if ends_in_last content
    then joined (code_points_of (field 0 previous)) (code_points_of (field 0 content))
    else code_points_of (field 0 content))
points_of (Unihan name) previous content =
    checked_points (option_and_then code_points_of (after_mark (column 0 content)))
points_of columns previous content = checked_points (code_points_of (field 0 content))

-- ---- Lines

-- The write of the number of a value.
abbrev pub write_of_number : CodePoints → Option ℕ → Result (Write ℕ) LineError
write_of_number points None = Err UnknownValue
write_of_number points (Some number) = Ok (write_at points number)

-- The write of a value, given as text.
unfoldable pub write_of : Numbering → CodePoints → List ℕ → Result (Write ℕ) LineError
write_of numbering points text = if length text == 0 then Err NoValue
    else write_of_number points (number_of numbering text)

-- The statement of a write.
abbrev pub said : (Write ℕ → Statement) → Result (Write ℕ) LineError
    → Result (Option Statement) LineError
said kind (Ok write) = Ok (Some (kind write))
said kind (Err fault) = Err fault

-- The statement of a line with these code points and this value, which are both tested.
abbrev pub statement_at : Numbering → (Write ℕ → Statement) → Result CodePoints LineError
    → Option (List ℕ) → Result (Option Statement) LineError
statement_at numbering kind (Err fault) text = Err fault
statement_at numbering kind (Ok points) None = Ok None
statement_at numbering kind (Ok points) (Some text) = said kind (write_of numbering points text)

-- What a line says that is neither an `@missing` line nor without content.
unfoldable pub explicit_statement : Columns → Numbering → List ℕ → List ℕ
    → Result (Option Statement) LineError
explicit_statement columns numbering previous content =
    statement_at numbering Explicit (points_of columns previous content)
    (value_text columns content)

-- The text of the value in an `@missing` line, if it has a number: only the other lines of a set
-- name its code points.
abbrev pub text_of_missing : Columns → Numbering → List ℕ → Option (List ℕ)
text_of_missing columns One content = None
text_of_missing columns numbering content = missing_text columns content

-- What an `@missing` line says.
unfoldable pub missing_statement : Columns → Numbering → List ℕ
    → Result (Option Statement) LineError
missing_statement columns numbering content =
    statement_at numbering Missing (checked_points (code_points_of (field 0 content)))
    (text_of_missing columns numbering content)

-- What a line says by its content, if it is no `@missing` line. Nothing if it has none.
abbrev pub statement_in : Columns → Numbering → List ℕ → List ℕ → Option (List ℕ)
    → Result (Option Statement) LineError
statement_in columns numbering previous line (Some missing) =
    missing_statement columns numbering missing
statement_in columns numbering previous line None =
    if length (content_in columns line) == 0 then Ok None
    else (if is_split columns line then Err SplitRange
    else explicit_statement columns numbering previous (content_in columns line))

-- What a line says after the line `previous`: nothing if it is blank, a comment or about another
-- property.
unfoldable pub statement_of : Columns → Numbering → List ℕ → List ℕ
    → Result (Option Statement) LineError
statement_of columns numbering previous line =
    if is_paired columns previous (content_in columns line)
    then statement_in columns numbering previous line (missing_of line)
    else Err Unpaired
