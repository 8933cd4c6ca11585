-- Messages about lines: where a line is, what was expected of it, and the line itself.
use Rattle.std.specs.Prelude.{ℕ, ◌-◌, nat_le, nat_lt, ◌&&◌, ◌==◌, not, Bool, false, List, [], ◌∷◌, ◌++◌, length, take, replicate, codes, decimal, if◌then◌else◌}
use Rattle.std.specs.List.{flat_map}
use Rattle.std.specs.Fmt.{digits}
use Rattle.ucptab_table.specs.Hints.{hint_of}
use Rattle.ucptab_table.specs.declared.error.RowError.{RowError}
use Rattle.ucptab_table.specs.declared.error.RowError.TheVariants.{NotARow, CodePoint, Reversed, Value}

-- What the test of a row that failed expects.
abbrev pub expected_text : RowError → List ℕ
expected_text NotARow = codes "HEX;VALUE or HEX..HEX;VALUE"
expected_text CodePoint = codes "code points up to 10FFFF"
expected_text Reversed = codes "a range whose end is not below its start"
expected_text Value = codes "a value up to 4294967295"

-- A byte as two hexadecimal digits in lower case.
unfoldable pub byte_text : ℕ → List ℕ
byte_text b = let shown = digits 16 false b in replicate (2 - length shown) 48 ++ shown

-- A byte that is shown as itself: a printing ASCII character other than `"` and `\`.
unfoldable pub is_plain : ℕ → Bool
is_plain b = (nat_le 32 b && nat_le b 126) && (not (b == 34) && not (b == 92))

-- A byte as a message shows it: itself, or `\x` and two hexadecimal digits.
unfoldable pub shown_byte : ℕ → List ℕ
shown_byte b = if is_plain b then b ∷ [] else 92 ∷ (120 ∷ byte_text b)

-- A line between quotes: its first 60 bytes, and `..` after the quote if it has more.
unfoldable pub quoted : List ℕ → List ℕ
quoted line =
    if nat_lt 60 (length line)
    then 34 ∷ (flat_map shown_byte (take 60 line) ++ codes "\"..")
    else 34 ∷ (flat_map shown_byte line ++ (34 ∷ []))

-- `INPUT:NUMBER: expected EXPECTED, found "LINE"`.
abbrev pub line_message_text : List ℕ → ℕ → List ℕ → List ℕ → List ℕ
line_message_text input number expected line =
    (input ++ (58 ∷ (decimal number ++ (codes ": expected " ++ (expected ++ codes ", found ")))))
    ++ quoted line

-- `: HINT` if the line does not have the form of a row.
abbrev pub hint_text : RowError → List ℕ → List ℕ
hint_text NotARow line = codes ": " ++ hint_of line
hint_text _ line = []

-- The same about a row's fault, and what is wrong with its form.
abbrev pub row_message_text : List ℕ → ℕ → RowError → List ℕ → List ℕ
row_message_text input number fault line =
    line_message_text input number (expected_text fault) line ++ hint_text fault line
