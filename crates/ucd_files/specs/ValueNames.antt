-- Names and numbers of the values of a property, as pairs.
use Rattle.std.specs.Prelude.{ℕ, ◌+◌, ◌==◌, ◌&&◌, not, Bool, List, [], ◌∷◌, ◌++◌, length, map, Option, Some, None, is_some, false, if◌then◌else◌, unwrap_or}
use Rattle.std.specs.List.{filter, list_any}
use Rattle.std.specs.Option.{option_and_then}
use Rattle.std.specs.Str.Lines.{lines}
use Rattle.ucptab_table.specs.TableText.{after, content_of}
use Rattle.ucd_files.specs.Fields.{field, missing_of}
use Rattle.ucd_files.specs.Names.{is_match, is_same_name, short_decimal}
use Rattle.ucd_files.specs.Statements.{content_in, later_field, missing_text, untagged, value_text}
use Rattle.ucd_files.specs.declared.names.Matching.TheVariants.{Exact}
use Rattle.ucd_files.specs.declared.statement.Columns.{Columns}

-- ---- PropertyValueAliases.txt

-- A line with names of one value of the property: field 0 is the property. A line with `|` in its
-- comment names a group of values and is left out.
unfoldable pub is_value_line : List ℕ → List ℕ → Bool
is_value_line property line =
    is_same_name (field 0 (content_of line)) property
    && not (list_any (λ b. b == 124) (after 35 line))

-- The number of a value, the k-th of the property, counted from 0: k, or the number in field 1 if
-- it is one, as in the lines of Canonical_Combining_Class.
unfoldable pub value_number : ℕ → List ℕ → ℕ
value_number k content = unwrap_or (short_decimal (field 1 content)) k

-- A name with a number, if it is not empty.
abbrev pub named : ℕ → List ℕ → List (List ℕ × ℕ)
named number text = if length text == 0 then [] else (text, number) ∷ []

-- The names in fields 1 to 4 of a line.
unfoldable pub names_in : ℕ → List ℕ → List (List ℕ × ℕ)
names_in number content = named number (field 1 content) ++ named number (field 2 content)
    ++ named number (field 3 content) ++ named number (field 4 content)

-- The names in the lines of a property's values. The first of them is the k-th one.
abbrev pub names_from : ℕ → List (List ℕ) → List (List ℕ × ℕ)
names_from k [] = []
names_from k (content ∷ more) =
    names_in (value_number k content) content ++ names_from (k + 1) more

-- The names and numbers of the property's values.
abbrev pub alias_names : List ℕ → List ℕ → List (List ℕ × ℕ)
alias_names property input =
    names_from 0 (map content_of (filter (is_value_line property) (lines input)))

-- The last line with content is one of the property, for the lines up to this one. `follows` is
-- the same for the lines before it.
unfoldable pub follows_values : List ℕ → Bool → List ℕ → Bool
follows_values property follows line = if length (content_of line) == 0 then follows
    else is_same_name (field 0 (content_of line)) property

-- The value in an `@missing` line. None if it is not written as text, as `<none>`.
abbrev pub missing_value : List ℕ → Option (List ℕ)
missing_value content = untagged (later_field content)

-- The value in the first of these lines that is an `@missing` line and follows one of the property.
abbrev pub missing_from : List ℕ → Bool → List (List ℕ) → Option (List ℕ)
missing_from property follows [] = None
missing_from property follows (line ∷ more) = if follows && is_some (missing_of line)
    then option_and_then missing_value (missing_of line)
    else missing_from property (follows_values property follows line) more

-- The value of the code points without a line: PropertyValueAliases.txt has it in an `@missing`
-- line after the lines of the property's values.
abbrev pub missing_alias : List ℕ → List ℕ → Option (List ℕ)
missing_alias property input = missing_from property false (lines input)

-- ---- Names in order of first appearance

-- The text of a line's value, if it has one that is not empty.
unfoldable pub text_of_line : Columns → List ℕ → Option (List ℕ)
text_of_line columns line = some_text (unfolded (missing_of line)) where
  unfolded : Option (List ℕ) → Option (List ℕ)
  unfolded (Some content) = missing_text columns content
  unfolded None = value_text columns (content_in columns line)

  some_text : Option (List ℕ) → Option (List ℕ)
  some_text None = None
  some_text (Some text) = if length text == 0 then None else Some text

-- One of the names is the text.
abbrev pub is_known : List (List ℕ × ℕ) → List ℕ → Bool
is_known names text = list_any (λ name. is_match Exact name.0 text) names

-- The names and one more. It gets the next number, unless it is known.
abbrev pub with_name : List (List ℕ × ℕ) → List ℕ → List (List ℕ × ℕ)
with_name names text = if is_known names text then names else names ++ (text, length names) ∷ []

-- The names after all texts, in order of first appearance.
abbrev pub names_after : List (List ℕ × ℕ) → List (List ℕ) → List (List ℕ × ℕ)
names_after names [] = names
names_after names (text ∷ texts) = names_after (with_name names text) texts
