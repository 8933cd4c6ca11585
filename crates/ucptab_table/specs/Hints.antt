-- What is wrong with a line that does not have the form of a row, and what to write instead.
use Rattle.std.specs.Prelude.{ℕ, nat_eq, nat_lt, ◌==◌, ◌||◌, ◌&&◌, not, Bool, false, List, [], ◌∷◌, length, is_none, is_some, codes, if◌then◌else◌}
use Rattle.std.specs.Char.{is_ascii_alphabetic, is_digit}
use Rattle.std.specs.List.{list_all, list_any, starts_with, ends_with}
use Rattle.ucptab_table.specs.TableText.{after, before, code_points_of, content_of, hexadecimal, trimmed}

-- Some byte is this one.
abbrev pub has : ℕ → List ℕ → Bool
has byte bytes = list_any (λ b. b == byte) bytes

-- The bytes start with the mark.
abbrev pub starts : List ℕ → List ℕ → Bool
starts mark bytes = starts_with nat_eq bytes mark

-- All bytes are digits of the base.
abbrev pub are_digits : ℕ → List ℕ → Bool
are_digits base bytes = list_all (λ c. is_digit c base) bytes

-- ---- Lines

-- The line starts with U+FEFF in UTF-16, in either byte order.
unfoldable pub is_utf16 : List ℕ → Bool
is_utf16 line = starts (0xFF ∷ (0xFE ∷ [])) line || starts (0xFE ∷ (0xFF ∷ [])) line

-- What is wrong with a line without `;`.
unfoldable pub separator_hint : List ℕ → List ℕ
separator_hint content =
    if has 44 content then codes "fields are separated by `;`, not by a comma"
    else (if has 9 content then codes "fields are separated by `;`, not by a tab"
    else codes "there is no `;` between code points and value")

-- ---- Code points

-- The first code point of a range, or the last one, starts with the mark.
unfoldable pub has_mark : List ℕ → List ℕ → Bool
has_mark mark field = starts mark field || starts mark (after 46 (after 46 field))

-- `U+` of either case.
unfoldable pub has_plus : List ℕ → Bool
has_plus field = has_mark (codes "U+") field || has_mark (codes "u+") field

-- `0x` of either case, or `\`.
unfoldable pub has_escape : List ℕ → Bool
has_escape field =
    has_mark (codes "0x") field || (has_mark (codes "0X") field || has_mark (92 ∷ []) field)

-- A space or a tab.
unfoldable pub has_blank : List ℕ → Bool
has_blank field = has 32 field || has 9 field

-- More than 8 hexadecimal digits.
unfoldable pub is_long : List ℕ → Bool
is_long part = nat_lt 8 (length part) && are_digits 16 part

-- The first code point of a range, or the last one, has more than 8 digits.
unfoldable pub has_long : List ℕ → Bool
has_long field = is_long (before 46 field) || is_long (after 46 (after 46 field))

-- A `.` is first or last.
unfoldable pub is_open : List ℕ → Bool
is_open field = starts (codes ".") field || ends_with nat_eq field (codes ".")

-- HEX, a mark and HEX.
unfoldable pub is_pair : ℕ → List ℕ → Bool
is_pair mark field =
    is_some (hexadecimal (before mark field)) && is_some (hexadecimal (after mark field))

-- `-`, `:`, `.` or `...` between two code points.
unfoldable pub is_other_range : List ℕ → Bool
is_other_range field =
    is_pair 45 field
    || (is_pair 58 field || (is_pair 46 field || starts (codes "..") (after 46 field)))

-- What is wrong with code points that are neither `HEX` nor `HEX..HEX`.
unfoldable pub code_points_hint : List ℕ → List ℕ
code_points_hint field =
    if length field == 0 then codes "there is no code point before `;`"
    else (if has_plus field then codes "code points are written 0041, without `U+`"
    else (if has_escape field then codes "code points are written 0041, without `0x` or `\\u`"
    else (if has_blank field
    then codes "code points are written 0041 or 0041..005A, without spaces or tabs"
    else (if has_long field then codes "a code point has at most 8 hexadecimal digits"
    else (if is_open field then codes "a range has a code point before and after `..`"
    else (if is_other_range field then codes "a range is written 0041..005A, with two dots"
    else codes "code points are hexadecimal, as 0041 or 0041..005A"))))))

-- ---- Values

-- `-` or `+` is first.
unfoldable pub has_sign : List ℕ → Bool
has_sign value = starts (codes "-") value || starts (codes "+") value

-- `0x` of either case is first.
unfoldable pub has_prefix : List ℕ → Bool
has_prefix value = starts (codes "0x") value || starts (codes "0X") value

-- Decimal digits with one mark among them.
unfoldable pub is_split : ℕ → List ℕ → Bool
is_split mark value = has mark value
    && (are_digits 10 (before mark value) && are_digits 10 (after mark value))

-- A fraction, as 1/2 or 0.5.
unfoldable pub is_fraction : List ℕ → Bool
is_fraction value = is_split 46 value || is_split 47 value

-- The first byte is an ASCII letter.
abbrev pub starts_with_letter : List ℕ → Bool
starts_with_letter [] = false
starts_with_letter (b ∷ bytes) = is_ascii_alphabetic b

-- What is wrong with a value that is not 1 to 10 decimal digits.
unfoldable pub value_hint : List ℕ → List ℕ
value_hint value =
    if length value == 0 then codes "there is no value after `;`"
    else (if has_sign value then codes "values are 0 to 4294967295, without a sign"
    else (if has_prefix value then codes "values are decimal, without `0x`"
    else (if are_digits 10 value then codes "a value has at most 10 digits"
    else (if are_digits 16 value then codes "values are decimal, without A to F"
    else (if is_fraction value then codes "values are whole numbers"
    else (if are_digits 10 (before 32 (before 9 value))
    then codes "other text follows the value: a comment starts with `#`"
    else (if starts_with_letter value then codes "values are numbers, not names"
    else codes "a value has decimal digits only")))))))

-- ---- Rows

-- What is wrong with the code points or the value of a line without its comment.
unfoldable pub fields_hint : List ℕ → List ℕ
fields_hint content =
    let field = trimmed (before 59 content) in
    let others = after 59 content in
    if not (has 59 content) then separator_hint content
    else (if has 59 others then codes "a row has two fields, HEX;VALUE, and this line has more"
    else (if is_none (code_points_of field) then code_points_hint field
    else value_hint (trimmed others)))

-- What is wrong with a line that does not have the form of a row: the first text that is true.
unfoldable pub hint_of : List ℕ → List ℕ
hint_of line =
    let content = content_of line in
    if starts (0xEF ∷ (0xBB ∷ (0xBF ∷ []))) line
    then codes "the line starts with a byte order mark: save the file without it"
    else (if is_utf16 line
    then codes "the line starts with a byte order mark of UTF-16: save the file in UTF-8"
    else (if has 0 content
    then codes "the line has a NUL byte, as in UTF-16: save the file in UTF-8"
    else (if has 13 content then codes "a CR has no LF after it: lines end with LF or CR LF"
    else (if has 34 content then codes "a row has no quotation marks"
    else fields_hint content))))
