-- What the values of a file are, and how they become numbers. Names of values are pairs of a text
-- and a number.
use Rattle.std.specs.Prelude.{ℕ, zero, suc, ◌==◌, ◌&&◌, ◌||◌, nat_eq, nat_le, not, Bool, true, false, List, [], ◌∷◌, ◌++◌, codes, length, map, Option, Some, None, if◌then◌else◌, unwrap_or}
use Rattle.std.specs.List.{filter_map, list_all, list_any, starts_with}
use Rattle.std.specs.Option.{option_and_then}
use Rattle.std.specs.Str.Lines.{lines}
use Rattle.ucptab_table.specs.TableText.{hexadecimal}
use Rattle.ucd_files.specs.Kinds.{has_code_point, has_decimal, has_leading_zero, says_missing}
use Rattle.ucd_files.specs.Names.{is_same_name, number_named, short_decimal, short_number}
use Rattle.ucd_files.specs.Titles.{title_of}
use Rattle.ucd_files.specs.ValueNames.{names_after, text_of_line}
use Rattle.ucd_files.specs.declared.choice.NumberingKind.{NumberingKind}
use Rattle.ucd_files.specs.declared.choice.NumberingKind.TheVariants.{Decimal, Hexadecimal, One, Names}
use Rattle.ucd_files.specs.declared.choice.ValueKind.{ValueKind}
use Rattle.ucd_files.specs.declared.choice.ValueKind.TheVariants.{Aliases, Binary, Own, Set}
use Rattle.ucd_files.specs.declared.names.Matching.{Matching}
use Rattle.ucd_files.specs.declared.names.Matching.TheVariants.{Exact, Loose}
use Rattle.ucd_files.specs.declared.names.Name.{Name}
use Rattle.ucd_files.specs.declared.statement.Columns.{Columns}
use Rattle.ucd_files.specs.declared.statement.Columns.TheVariants.{Field, Property, SimpleFolding, UnicodeData, Unihan}

-- ---- What the values are

-- The names of false, as PropertyValueAliases.txt has them for each property that is true or false.
abbrev pub names_of_false : List (List ℕ)
names_of_false = codes "N" ∷ codes "No" ∷ codes "F" ∷ codes "False" ∷ []

-- The names of true in that file.
abbrev pub names_of_true : List (List ℕ)
names_of_true = codes "Y" ∷ codes "Yes" ∷ codes "T" ∷ codes "True" ∷ []

-- The text is the same name as one of these.
abbrev pub is_one_of : List (List ℕ) → List ℕ → Bool
is_one_of names text = list_any (is_same_name text) names

-- The text means false.
unfoldable pub is_no : List ℕ → Bool
is_no text = is_one_of names_of_false text

-- The text is `Y` or `N`, as in the field of Bidi_Mirrored in UnicodeData.txt.
unfoldable pub is_yes_or_no : List ℕ → Bool
is_yes_or_no text = is_one_of (codes "Y" ∷ codes "N" ∷ []) text

-- There are names, all of which are `Y` or `N`.
unfoldable pub are_yes_or_no : List (List ℕ × ℕ) → Bool
are_yes_or_no names = not (length names == 0) && list_all (λ name. is_yes_or_no name.0) names

-- The lines have only code points, or the only value of the property is the property itself, as in
-- PropList.txt. An empty name before it is that of code points without a line.
unfoldable pub is_set : Columns → List (List ℕ × ℕ) → Bool
is_set (Field zero) names = true
is_set (Property property) (value ∷ []) = is_same_name value.0 property.now
is_set (Property property) (none ∷ value ∷ []) =
    length none.0 == 0 && is_same_name value.0 property.now
is_set columns names = false

-- The values are true and false. In UnicodeData.txt all names after the first one, which is that of
-- code points without a line, are `Y` or `N`. The two names of another property are the property
-- itself and one of false.
unfoldable pub is_binary : Columns → List (List ℕ × ℕ) → Bool
is_binary (UnicodeData n) (none ∷ values) = are_yes_or_no values
is_binary (Property property) (first ∷ second ∷ []) =
    is_no first.0 && is_same_name second.0 property.now
    || is_no second.0 && is_same_name first.0 property.now
is_binary columns names = false

-- What values are that only the file itself names. No standard says it, so this is a heuristic.
unfoldable pub own_kind : Columns → List (List ℕ × ℕ) → ValueKind
own_kind columns names = if is_set columns names then Set
    else (if is_binary columns names then Binary else Own)

-- What values are that the file of aliases names.
unfoldable pub alias_kind : Columns → List (List ℕ × ℕ) → ValueKind
alias_kind columns names = if is_set columns names then Set else Aliases

-- ---- Which names the values have

-- The empty name, with the number 0, if no `@missing` line says which value code points without a
-- line have.
unfoldable pub missing_name : Columns → List ℕ → List (List ℕ × ℕ)
missing_name columns input =
    if list_any (says_missing columns) (lines input) then [] else ([], 0) ∷ []

-- The names in the file, in order of first appearance.
abbrev pub own_names : Columns → List ℕ → List (List ℕ × ℕ)
own_names columns input =
    names_after (missing_name columns input) (filter_map (text_of_line columns) (lines input))

-- Texts, all with one number.
abbrev pub with_number : ℕ → List (List ℕ) → List (List ℕ × ℕ)
with_number number texts = map (λ text. (text, number)) texts

-- The property itself, which means true.
abbrev pub property_name : Columns → List (List ℕ × ℕ)
property_name (Property property) = (property.now, 1) ∷ []
property_name columns = []

-- The names of false, which is 0, and of true, which is 1.
abbrev pub binary_names : Columns → List (List ℕ × ℕ)
binary_names columns =
    property_name columns ++ with_number 0 names_of_false ++ with_number 1 names_of_true

-- The names by which values have numbers, if the file has these names. All names of true and false
-- are known, not only those in the file.
abbrev pub names_of_kind : ValueKind → Columns → List (List ℕ × ℕ) → List (List ℕ × ℕ)
names_of_kind Binary columns names = binary_names columns
names_of_kind kind columns names = names

-- ---- How texts become numbers

-- The values are code points: those of the simple case folding, and of the simple case mappings in
-- fields 12 to 14 of UnicodeData.txt.
abbrev pub is_mapping : Columns → Bool
is_mapping SimpleFolding = true
is_mapping (UnicodeData n) = nat_le 12 n && nat_le n 14
is_mapping columns = false

-- A file in which field 1 of each line is a code point: the mirrored character, the paired bracket,
-- the unified ideograph.
unfoldable pub is_pair_title : List ℕ → Bool
is_pair_title title = starts_with nat_eq title (codes "BidiMirroring")
    || (starts_with nat_eq title (codes "BidiBrackets")
    || starts_with nat_eq title (codes "EquivalentUnifiedIdeograph"))

-- The same for a title that may not be there.
abbrev pub is_some_pair_title : Option (List ℕ) → Bool
is_some_pair_title (Some title) = is_pair_title title
is_some_pair_title None = false

-- The values are the code points in field 1 of such a file.
unfoldable pub is_pair_file : Columns → List ℕ → Bool
is_pair_file (Field (suc zero)) input = is_some_pair_title (title_of input)
is_pair_file columns input = false

-- All values are code points in 4 to 6 digits, and one starts with `0`, as no decimal number does.
unfoldable pub are_marked : Columns → List ℕ → Bool
are_marked (Unihan name) input = false
are_marked columns input = list_all (has_code_point columns) (lines input)
    && list_any (has_leading_zero columns) (lines input)

-- The kind of numbering that the values of a file show. No standard says it, so apart from the
-- files of code points this is a heuristic, and the user can name the numbering. The lines of a set
-- have the number 1. True, false and aliases are names. Other texts are code points, if they are
-- marked as such, or decimal numbers, or else code points, if all of them are, and otherwise names.
abbrev pub numbering_by_kind : Columns → ValueKind → List ℕ → NumberingKind
numbering_by_kind columns Set input = One
numbering_by_kind columns Binary input = Names
numbering_by_kind columns Aliases input = Names
numbering_by_kind columns Own input =
    if is_pair_file columns input || are_marked columns input then Hexadecimal
    else (if list_all (has_decimal columns) (lines input) then Decimal
    else (if list_all (has_code_point columns) (lines input) then Hexadecimal else Names))

-- The kind of numbering that the file shows.
unfoldable pub shown_numbering : Columns → ValueKind → List ℕ → NumberingKind
shown_numbering columns kind input =
    if is_mapping columns then Hexadecimal else numbering_by_kind columns kind input

-- The kind of numbering that the user asks for, or else the one that the file shows.
abbrev pub numbering_kind : Option NumberingKind → Columns → ValueKind → List ℕ → NumberingKind
numbering_kind asked columns kind input = unwrap_or asked (shown_numbering columns kind input)

-- How names are compared: the texts of a file itself are different values if they are not equal.
abbrev pub matching_of : ValueKind → Matching
matching_of Own = Exact
matching_of kind = Loose

-- The number of a text in a numbering of this kind, by these names if it is by names.
unfoldable pub number_by : NumberingKind → ValueKind → List Name → List ℕ → Option ℕ
number_by Decimal kind names text = short_decimal text
number_by Hexadecimal kind names text = hexadecimal text
number_by One kind names text = Some 1
number_by Names kind names text =
    option_and_then short_number (number_named (matching_of kind) names text)

-- The numbering is by names.
abbrev pub is_names : NumberingKind → Bool
is_names Names = true
is_names kind = false
