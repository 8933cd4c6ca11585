-- Patterns: texts with a name and numbers in them. Bytes are numbers, as 64 for `@`.
use Rattle.std.specs.Prelude.{ℕ, ◌==◌, ◌%◌, nat_le, List, [], ◌∷◌, ◌++◌, codes, decimal, drop, false, if◌then◌else◌}
use Rattle.std.specs.Fmt.{digits}
use Rattle.std.specs.List.{flat_map}
use Rattle.ucptab_table.specs.declared.pattern.Number.{Number}
use Rattle.ucptab_table.specs.declared.pattern.Number.TheVariants.{Decimal, Hexadecimal}

-- A pattern with a name in place of each `@`.
abbrev pub named : List ℕ → List ℕ → List ℕ
named name pattern = flat_map (λ b. if b == 64 then name else b ∷ []) pattern

-- The text of a number: decimal digits, or `0x` and hexadecimal digits in lower case.
abbrev pub number_text : Number → List ℕ
number_text (Decimal n) = decimal n
number_text (Hexadecimal n) = codes "0x" ++ digits 16 false n

-- The text of the first of some numbers, or no text if there is none.
abbrev pub first_text : List Number → List ℕ
first_text [] = []
first_text (number ∷ numbers) = number_text number

-- A pattern with a name in place of each `@`, and the next number in place of each `%`. If no
-- number is left, nothing replaces it.
abbrev pub filled : List ℕ → List Number → List ℕ → List ℕ
filled name numbers [] = []
filled name numbers (b ∷ pattern) =
    if b == 37 then first_text numbers ++ filled name (drop 1 numbers) pattern
    else (if b == 64 then name else b ∷ []) ++ filled name numbers pattern

-- A cell's number as ICU's tools write it: in decimal up to 9, and in hexadecimal above.
abbrev pub cell_number : ℕ → Number
cell_number cell = if nat_le cell 9 then Decimal cell else Hexadecimal cell

-- What precedes the cell i of an array: sixteen cells to a line, with commas between them, and
-- every line but the first behind the indent.
abbrev pub gap : List ℕ → ℕ → List ℕ
gap indent i = if i == 0 then [] else (if i % 16 == 0 then codes ",\n" ++ indent else codes ",")
