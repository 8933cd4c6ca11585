-- Names of values: when two are the same, and which number a value has.
use Rattle.std.specs.Prelude.{ℕ, ◌==◌, ◌&&◌, ◌||◌, nat_le, nat_eq, not, Bool, true, false, List, [], ◌∷◌, codes, map, Option, Some, None, if◌then◌else◌}
use Rattle.std.specs.Char.{to_ascii_lowercase}
use Rattle.std.specs.List.{find, starts_with}
use Rattle.std.specs.Option.{option_and_then, option_map}
use Rattle.std.specs.Cmp.Lexicographic.{pointwise}
use mathlib.Core.Bool.{beq}
use Rattle.ucptab_table.specs.TableText.{decimal_number, hexadecimal}
use Rattle.ucd_files.specs.declared.names.Matching.{Matching}
use Rattle.ucd_files.specs.declared.names.Matching.TheVariants.{Exact, Loose}
use Rattle.ucd_files.specs.declared.names.Name.{Name}
use Rattle.ucd_files.specs.declared.names.Numbering.{Numbering}
use Rattle.ucd_files.specs.declared.names.Numbering.TheVariants.{Decimal, Hexadecimal, One, Names}

-- A byte that counts if names are compared: no space, `_` or `-`.
abbrev pub is_significant : ℕ → Bool
is_significant byte = not (byte == 32 || (byte == 95 || byte == 45))

-- A name as it is compared: without spaces, `_` and `-`, in lower case. This is rule UAX44-LM3
-- of the Unicode Character Database, apart from a leading `is`.
abbrev pub loose : List ℕ → List ℕ
loose [] = []
loose (b ∷ bytes) = if is_significant b then to_ascii_lowercase b ∷ loose bytes else loose bytes

-- The two texts are the same in this comparison.
unfoldable pub is_alike : List ℕ → List ℕ → Bool
is_alike left right = pointwise nat_eq (loose left) (loose right)

-- The two names are the same. A text that starts with `-` is a negative number, and not the same as
-- another text.
unfoldable pub is_same_name : List ℕ → List ℕ → Bool
is_same_name left right =
    beq (starts_with nat_eq left (codes "-")) (starts_with nat_eq right (codes "-"))
    && is_alike left right

-- Names with their numbers, as pairs.
abbrev pub pairs_of : List Name → List (List ℕ × ℕ)
pairs_of names = map (λ name. (name.text.now, name.number)) names

-- The two texts are one name: byte by byte, as a file repeats its own texts, or as the names in a
-- file of aliases are compared.
unfoldable pub is_match : Matching → List ℕ → List ℕ → Bool
is_match Exact left right = pointwise nat_eq left right
is_match Loose left right = is_same_name left right

-- The number of the first of the names that matches the text.
unfoldable pub number_named : Matching → List Name → List ℕ → Option ℕ
number_named matching names text =
    option_map (λ name. name.number) (find (λ name. is_match matching name.text.now text) names)

-- A number if it has at most 32 bits.
unfoldable pub short_number : ℕ → Option ℕ
short_number n = if nat_le n 0xFFFFFFFF then Some n else None

-- A number of at most 32 bits in 1 to 10 decimal digits.
unfoldable pub short_decimal : List ℕ → Option ℕ
short_decimal text = option_and_then short_number (decimal_number text)

-- The number of a value. None if the text is no number or no name.
unfoldable pub number_of : Numbering → List ℕ → Option ℕ
number_of Decimal text = short_decimal text
number_of Hexadecimal text = hexadecimal text
number_of One text = Some 1
number_of (Names names matching) text =
    option_and_then short_number (number_named matching names.now text)

-- The numbering is by names.
abbrev pub is_by_names : Numbering → Bool
is_by_names (Names names matching) = true
is_by_names numbering = false
