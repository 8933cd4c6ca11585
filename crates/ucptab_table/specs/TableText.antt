-- The text of a table: the rows that are read and the lines that are printed. Bytes are numbers, as
-- 59 for `;`.
use Rattle.std.specs.Prelude.{◌≡◌, ◌<◌, ◌-◌, ℕ, ◌==◌, nat_lt, nat_le, ◌||◌, ◌&&◌, Bool, true, false, List, [], ◌∷◌, ◌++◌, length, take, drop, slice_get, slice_index, reverse, replicate, Option, Some, None, Result, Ok, Err, IsOk, IfSome, IsSomeAnd, All, if◌then◌else◌, codes, decimal}
use Rattle.std.specs.List.{before_first, after_first, list_all, filter_map, flat_map}
use Rattle.std.specs.Option.{option_map, option_and_then}
use Rattle.std.specs.Result.{result_unwrap_or}
use Rattle.std.specs.Char.{is_digit}
use Rattle.std.specs.Str.Lines.{lines}
use Rattle.std.specs.Str.Parse.{digits_value}
use Rattle.std.specs.Fmt.{digits}
use Rattle.std.specs.Io.KnownBytes.{IsAtEnd}
use Rattle.icu_zerovec.specs.CodePoints.{code_point_limit}
use Rattle.icu_trie_core.specs.Runs.{Run, AreMaximalRuns}
use Rattle.icu_trie_builder.specs.declared.writes.Write.{Write}
use Rattle.icu_trie_builder.specs.declared.writes.Write.TheVariants.{One, Range}
use Rattle.icu_trie_builder.specs.Bounds.{IsTooLarge}
use Rattle.icu_trie_builder.specs.Writes.{answer_after, value_after}
use Rattle.ucptab_table.specs.declared.error.RowError.{RowError}
use Rattle.ucptab_table.specs.declared.error.RowError.TheVariants.{NotARow, CodePoint, Reversed, Value}
use Rattle.ucptab_table.specs.declared.error.TableError.{TableError}
use Rattle.ucptab_table.specs.declared.error.TableError.TheVariants.{Row, TooLarge, Memory, Read, Write as WriteFailed}
use Rattle.ucptab_table.specs.declared.rows.CodePoints.{CodePoints}
use Rattle.ucptab_table.specs.declared.rows.CodePoints.TheVariants.{Single, Span}

-- ---- Numbers and fields

-- the number that 1 to `most` digits of a base write, the highest digit first; none for any other
-- bytes
unfoldable pub number_of : ℕ → ℕ → List ℕ → Option ℕ
number_of base most bytes =
    if nat_lt 0 (length bytes)
    && (nat_le (length bytes) most && list_all (λ c. is_digit c base) bytes)
    then Some (digits_value base bytes) else None

-- HEX: 1 to 8 hexadecimal digits of either case
abbrev pub hexadecimal : List ℕ → Option ℕ
hexadecimal bytes = number_of 16 8 bytes

-- N: 1 to 10 decimal digits
abbrev pub decimal_number : List ℕ → Option ℕ
decimal_number bytes = number_of 10 10 bytes

-- a space or a tab
abbrev pub is_blank : ℕ → Bool
is_blank b = b == 32 || b == 9

-- bytes without leading spaces and tabs
abbrev pub trim_start : List ℕ → List ℕ
trim_start [] = []
trim_start (b ∷ bytes) = if is_blank b then trim_start bytes else b ∷ bytes

-- bytes without trailing spaces and tabs
unfoldable pub trim_end : List ℕ → List ℕ
trim_end bytes = reverse (trim_start (reverse bytes))

-- bytes without leading and trailing spaces and tabs
unfoldable pub trimmed : List ℕ → List ℕ
trimmed bytes = trim_end (trim_start bytes)

-- The bytes before the first one that is `mark`, or all if there is none.
unfoldable pub before : ℕ → List ℕ → List ℕ
before mark bytes = before_first (λ b. b == mark) bytes

-- The bytes after the first one that is `mark`, or nothing if there is none.
unfoldable pub after : ℕ → List ℕ → List ℕ
after mark bytes = after_first (λ b. b == mark) bytes

-- ---- Rows

-- `HEX..HEX` if a `.` follows the first `.`, and `HEX` otherwise
unfoldable pub code_points_of : List ℕ → Option CodePoints
code_points_of field =
    let first = before 46 field in let rest = after 46 field in
    if slice_index rest 0 == 46
    then option_and_then (λ start. option_map (Span start) (hexadecimal (drop 1 rest)))
    (hexadecimal first)
    else option_map Single (hexadecimal field)

-- The first of the code points.
abbrev pub first_of : CodePoints → ℕ
first_of (Single c) = c
first_of (Span start end) = start

-- The last of the code points.
abbrev pub last_of : CodePoints → ℕ
last_of (Single c) = c
last_of (Span start end) = end

-- the write of a value at the code points
abbrev pub write_at : CodePoints → ℕ → Write ℕ
write_at (Single c) value = One c value
write_at (Span start end) value =
    Range (record { start = start; end = end; exhausted = false }) value

-- the write of a row, or the first fault of its numbers
unfoldable pub row_of_numbers : CodePoints → ℕ → Result (Write ℕ) RowError
row_of_numbers points value =
    if nat_le code_point_limit (first_of points) || nat_le code_point_limit (last_of points)
    then Err CodePoint
    else (if nat_lt (last_of points) (first_of points) then Err Reversed
    else (if nat_lt 0xFFFFFFFF value then Err Value
    else Ok (write_at points value)))

-- the same from the two fields of a row
abbrev pub row_of_fields : Option CodePoints → Option ℕ → Result (Write ℕ) RowError
row_of_fields None value = Err NotARow
row_of_fields (Some points) None = Err NotARow
row_of_fields (Some points) (Some value) = row_of_numbers points value

-- the one write, or the fault
abbrev pub some_write : Result (Write ℕ) RowError → Result (Option (Write ℕ)) RowError
some_write (Ok write) = Ok (Some write)
some_write (Err fault) = Err fault

-- a line without its comment, which starts at the first `#`, and without leading and trailing
-- blanks
abbrev pub content_of : List ℕ → List ℕ
content_of line = trimmed (before 35 line)

-- what a line says: nothing if its content is empty, and otherwise the write of the row `CODE
-- POINTS ; N`, or its fault
unfoldable pub row_of : List ℕ → Result (Option (Write ℕ)) RowError
row_of line =
    let content = content_of line in
    if length content == 0 then Ok None
    else some_write (row_of_fields (code_points_of (trimmed (before 59 content)))
    (decimal_number (trimmed (after 59 content))))

-- the write of a line, if it has one
abbrev pub write_of : List ℕ → Option (Write ℕ)
write_of line = result_unwrap_or (row_of line) None

-- a line with no fault
abbrev pub IsFaultless : List ℕ → Type 0
IsFaultless line = IsOk (row_of line)

-- no line of the input has a fault, and ws are the writes of its lines, in order. A line ends with
-- LF or CR LF, or with the input; there is no line after a last LF
pub record AreRows (input : List ℕ) (ws : List (Write ℕ)) : Type 0 where
  pub faultless : All IsFaultless (lines input)
  pub writes : ws ≡ filter_map write_of (lines input)

-- line k of the input, counted from 1, has the fault f, and no line before it has a fault
pub record IsFirstFault (input : List ℕ) (k : ℕ) (f : RowError) : Type 0 where
  pub counted : 0 < k
  pub faulty : IsSomeAnd (slice_get (lines input) (k - 1)) (λ line. row_of line ≡ Err f)
  pub faultless_before : All IsFaultless (take (k - 1) (lines input))

-- ---- What is printed

-- a number in upper-case hexadecimal digits, with leading zeros up to four digits
unfoldable pub hex_text : ℕ → List ℕ
hex_text n = let shown = digits 16 true n in replicate (4 - length shown) 48 ++ shown

-- a number in decimal digits
abbrev pub decimal_text : ℕ → List ℕ
decimal_text n = decimal n

-- the line `HEX;N` LF
unfoldable pub answer_line : ℕ → ℕ → List ℕ
answer_line n answer = hex_text n ++ (59 ∷ (decimal_text answer ++ (10 ∷ [])))

-- the lines of the asked numbers, in order
abbrev pub answers_text : (ℕ → ℕ) → List ℕ → List ℕ
answers_text answer asked = flat_map (λ n. answer_line n (answer n)) asked

-- the line of a run, `HEX..HEX;N` LF, or `HEX;N` LF if it is one code point
unfoldable pub run_line : Run ℕ → List ℕ
run_line r =
    if nat_lt r.first r.last
    then hex_text r.first ++ (46 ∷ (46 ∷ answer_line r.last r.value))
    else answer_line r.last r.value

-- the lines of all runs, in order
abbrev pub runs_text : List (Run ℕ) → List ℕ
runs_text runs = flat_map run_line runs

-- what is printed of a map with these values if these numbers are asked: their lines, or the lines
-- of the map's maximal runs if no number is asked
abbrev pub IsTextOfMap : (ℕ → ℕ) → (ℕ → ℕ) → List ℕ → List ℕ → Type 0
IsTextOfMap value answer [] text = (runs : List (Run ℕ))
    × (AreMaximalRuns value runs × (text ≡ runs_text runs))
IsTextOfMap value answer (n ∷ asked) text = text ≡ answers_text answer (n ∷ asked)

-- no line of the input has a fault, and the text is that of the map of its writes. A code point has
-- the value of the last write of the input that covers it, or the default if none does; a number
-- above the code space has the error value
abbrev pub IsTableText : List ℕ → ℕ → ℕ → List ℕ → List ℕ → Type 0
IsTableText input default error asked text = (ws : List (Write ℕ)) × (AreRows input ws
    × IsTextOfMap (value_after ws default) (answer_after default error ws) asked text)

-- What is printed for a row's fault, without the LF.
abbrev pub row_fault_text : RowError → List ℕ
row_fault_text NotARow = codes "not a row"
row_fault_text CodePoint = codes "code point too large"
row_fault_text Reversed = codes "range reversed"
row_fault_text Value = codes "value too large"

-- What is printed for an error, without the LF.
abbrev pub fault_text : TableError → List ℕ
fault_text (Row k f) = codes "line " ++ (decimal k ++ (codes ": " ++ row_fault_text f))
fault_text TooLarge = codes "too large"
fault_text Memory = codes "no memory"
fault_text Read = codes "read fault"
fault_text WriteFailed = codes "write fault"

-- no line of the input has a fault, and its writes over the default make a map that has too many
-- different blocks for a trie
abbrev pub IsTooLargeInput : ℕ → List ℕ → Type 0
IsTooLargeInput default input =
    (ws : List (Write ℕ)) × (AreRows input ws × IsTooLarge (value_after ws default))

-- an error has its cause. A reader's bytes were `before` and are `after`, as far as they are known.
-- A row's fault is the first one of the whole input, which is read to its end; so it is if a map is
-- too large. At a read fault the count of failed reads rose
pub record HasCause (default : ℕ) (before after : Option (List ℕ))
    (failures_before failures_after : ℕ) (fault : TableError) : Type 0 where
  pub row : (k : ℕ) (f : RowError) → fault ≡ Row k f
      → IfSome before (λ input. IsFirstFault input k f) × IsAtEnd after
  pub too_large : fault ≡ TooLarge → IfSome before (IsTooLargeInput default) × IsAtEnd after
  pub read : fault ≡ Read → failures_before < failures_after
