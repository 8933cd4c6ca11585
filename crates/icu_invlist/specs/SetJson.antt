-- A set in JSON: an array with one string for each range, in ascending order. A range of one code
-- point is that code point, and a longer one is its first and its last code point with `-` between
-- them. A code point is written as the character itself. A surrogate is not a character, and is
-- written as `U+` and four upper-case hexadecimal digits.
use Rattle.std.specs.Prelude.{◌≡◌, ◌≢◌, ℕ, zero, suc, ◌+◌, ◌*◌, ◌/◌, ◌%◌, ◌<◌, List, [], ◌∷◌, ◌++◌, map, Option, Some, None, Result, Ok, Err, ◌==◌, ◌&&◌, nat_le, nat_lt, if◌then◌else◌, option_and_then, ◌⊎◌}
use Rattle.std.specs.Str.{chars, encode_utf8_all}
use Rattle.std.specs.Char.{digit_value}
use Rattle.serde_json.specs.Data.{Data, string, array, Items, no_items, item}
use Rattle.serde_json.specs.Find.{as_str}
use Rattle.serde_json.specs.View.{items_of}
use Rattle.std.specs.Option.{ok_or}
use Rattle.icu_zerovec.specs.FirstFault.{and_then, read_from}
use Rattle.icu_invlist.specs.InversionList.{IsValid, ranges_of}
use Rattle.icu_invlist.specs.declared.codepointinvlist.error.SetJsonError.{SetJsonError}
use Rattle.icu_invlist.specs.declared.codepointinvlist.error.SetJsonError.TheVariants.{NotAnArray, NotAString, NotARange, InvalidSet, Memory}

-- ---- how a set is written
-- The upper-case hexadecimal digit of d.
abbrev pub upper_hex : ℕ → ℕ
upper_hex d = if nat_lt d 10 then 0x30 + d else 0x37 + d

-- The four upper-case hexadecimal digits of a number below 0x10000.
abbrev pub upper_hex4 : ℕ → List ℕ
upper_hex4 p = upper_hex (p / 4096 % 16) ∷ upper_hex (p / 256 % 16) ∷ upper_hex (p / 16 % 16)
    ∷ upper_hex (p % 16) ∷ []

-- The text of a code point.
abbrev pub spelling_of : ℕ → List ℕ
spelling_of p = if nat_le 0xD800 p && nat_lt p 0xE000 then 0x55 ∷ 0x2B ∷ upper_hex4 p else p ∷ []

-- The text of the range from a to b inclusive.
abbrev pub range_text : ℕ → ℕ → List ℕ
range_text a b = if a == b then spelling_of a else spelling_of a ++ 0x2D ∷ spelling_of b

-- The texts of the ranges of a set, each as a list of characters.
abbrev pub texts_of : List ℕ → List (List ℕ)
texts_of ends = map (λ r. range_text r.start r.end) (ranges_of ends)

-- The JSON value of a set.
abbrev pub written_of : List ℕ → Data
written_of ends = array (items_of (map (λ t. string (encode_utf8_all t)) (texts_of ends)))

-- ---- what the strings of a set mean
-- The text is four hexadecimal digits of either case, and n is their number.
pub record IsHex (text : List ℕ) (n : ℕ) : Type 0 where
  pub a : ℕ
  pub b : ℕ
  pub c : ℕ
  pub d : ℕ
  pub is : text ≡ a ∷ b ∷ c ∷ d ∷ []
  pub digits : (digit_value a < 16) × (digit_value b < 16) × (digit_value c < 16)
      × (digit_value d < 16)
  pub value : n ≡ ((digit_value a * 16 + digit_value b) * 16 + digit_value c) * 16 + digit_value d

-- The text of a code point is the character itself, or `U+` and four digits. A surrogate can only
-- be spelled with digits.
abbrev pub IsPoint : List ℕ → ℕ → Type 0
IsPoint text p =
    (text ≡ p ∷ []) ⊎ ((digits : List ℕ) × (text ≡ 0x55 ∷ 0x2B ∷ digits) × IsHex digits p)

-- The text of a range from a to b inclusive: one code point, or two with 0x2D, the minus sign,
-- between them.
abbrev pub IsRange : List ℕ → ℕ → ℕ → Type 0
IsRange text a b =
    (IsPoint text a × (b ≡ a))
    ⊎ ((front : List ℕ) × (middle : List ℕ) × (back : List ℕ) × (text ≡ front ++ (middle ++ back))
    × IsPoint front a × IsPoint middle 0x2D × IsPoint back b)

-- All items are strings that spell ranges, and `ends` are the boundaries of these ranges: for each
-- its first code point, and its last one plus one.
abbrev pub SayEnds : Items → List ℕ → Type 0
SayEnds no_items ends = ends ≡ []
SayEnds (item (string text) items) ends =
    (a : ℕ) × (b : ℕ) × (rest : List ℕ) × IsRange (chars text) a b × (ends ≡ a ∷ (b + 1) ∷ rest)
    × SayEnds items rest
SayEnds (item _ items) ends = ⊥

-- ---- the steps of a reader
-- The first character and the rest.
abbrev pub first_of : List ℕ → Option (ℕ × List ℕ)
first_of [] = None
first_of (c ∷ cs) = Some (c, cs)

-- The number n with one more hexadecimal digit, and the rest.
unfoldable pub digit_at : ℕ → List ℕ → Option (ℕ × List ℕ)
digit_at n cs = option_and_then
    (λ (x : ℕ × List ℕ). if nat_lt (digit_value x.0) 16 then Some (n * 16 + digit_value x.0, x.1)
    else None) (first_of cs)

-- The number of the four hexadecimal digits at the start, and the rest.
unfoldable pub hex_at : List ℕ → Option (ℕ × List ℕ)
hex_at cs =
    option_and_then (λ (x : ℕ × List ℕ). option_and_then
    (λ (y : ℕ × List ℕ). option_and_then (λ (z : ℕ × List ℕ). digit_at z.0 z.1)
    (digit_at y.0 y.1)) (digit_at x.0 x.1)) (digit_at 0 cs)

-- The code point at the start, and the rest.
unfoldable pub point_at : List ℕ → Option (ℕ × List ℕ)
point_at [] = None
point_at (c ∷ []) = Some (c, [])
point_at (c ∷ d ∷ cs) =
    if c == 0x55 then (if d == 0x2B then hex_at cs else Some (c, d ∷ cs)) else Some (c, d ∷ cs)

-- The range from a to b, if b was read and nothing is left after it.
abbrev pub last_point : ℕ → Option (ℕ × List ℕ) → Option (ℕ × ℕ)
last_point a None = None
last_point a (Some (b, [])) = Some (a, b)
last_point a (Some (b, c ∷ rest)) = None

-- The range from a to the code point after a minus sign, which was read as m.
abbrev pub second_point : ℕ → Option (ℕ × List ℕ) → Option (ℕ × ℕ)
second_point a None = None
second_point a (Some (m, rest)) = if m == 0x2D then last_point a (point_at rest) else None

-- The range that starts with the code point a, which was read.
abbrev pub range_from : Option (ℕ × List ℕ) → Option (ℕ × ℕ)
range_from None = None
range_from (Some (a, [])) = Some (a, a)
range_from (Some (a, c ∷ rest)) = second_point a (point_at (c ∷ rest))

-- The range that the whole text spells.
unfoldable pub range_at : List ℕ → Option (ℕ × ℕ)
range_at cs = range_from (point_at cs)

-- ---- the boundaries in a JSON value, or its first fault
-- The items as a list.
abbrev pub list_of : Items → List Data
list_of no_items = []
list_of (item d items) = d ∷ list_of items

-- The range that item i spells, or its fault.
abbrev pub range_or : ℕ → Data → Result (ℕ × ℕ) SetJsonError
range_or i d = and_then (ok_or (as_str d) (NotAString i))
    (λ t. ok_or (range_at (chars t)) (NotARange i))

-- The boundaries of ranges: for each its first code point, and its last one plus one.
abbrev pub ends_of_ranges : List (ℕ × ℕ) → List ℕ
ends_of_ranges [] = []
ends_of_ranges (r ∷ rs) = r.0 ∷ (r.1 + 1) ∷ ends_of_ranges rs

-- The boundaries of the ranges that the items spell, or the first fault.
abbrev pub ends_in : Items → Result (List ℕ) SetJsonError
ends_in items = and_then (read_from range_or 0 (list_of items)) (λ rs. Ok (ends_of_ranges rs))

-- The boundaries of the ranges that a value spells, or its first fault.
abbrev pub ends_of : Data → Result (List ℕ) SetJsonError
ends_of (array items) = ends_in items
ends_of _ = Err NotAnArray

-- ---- what is read, and what is rejected
-- The value is an array of strings that spell ranges with these boundaries.
abbrev pub IsSaid : Data → List ℕ → Type 0
IsSaid d ends = (items : Items) × (d ≡ array items) × SayEnds items ends

-- Each error names the first fault. `InvalidSet` means that there is no other fault, but the
-- boundaries are not an inversion list. `Memory` is possible in any case.
abbrev pub IsRefusedJson : Data → SetJsonError → Type 0
IsRefusedJson d NotAnArray = ends_of d ≡ Err NotAnArray
IsRefusedJson d (NotAString i) = ends_of d ≡ Err (NotAString i)
IsRefusedJson d (NotARange i) = ends_of d ≡ Err (NotARange i)
IsRefusedJson d InvalidSet = (ends : List ℕ) × (ends_of d ≡ Ok ends) × (¬ (IsValid ends))
IsRefusedJson d Memory = Unit {0}

-- The value is a string that spells a range.
abbrev pub SpellsRange : Data → Type 0
SpellsRange d = (text : List ℕ) × (a : ℕ) × (b : ℕ) × (d ≡ string text) × IsRange (chars text) a b

-- The value is a string that does not spell a range.
abbrev pub SpellsNoRange : Data → Type 0
SpellsNoRange d = (text : List ℕ) × (d ≡ string text) × ((a b : ℕ) → ¬ (IsRange (chars text) a b))

-- The item at index i has the fault, and all items before it spell ranges.
abbrev pub FailsFirst : (Data → Type 0) → ℕ → Items → Type 0
FailsFirst Fault i no_items = ⊥
FailsFirst Fault zero (item d items) = Fault d
FailsFirst Fault (suc i) (item d items) = SpellsRange d × FailsFirst Fault i items

-- The same errors as in `IsRefusedJson`, stated without the reader. Either the value is not an
-- array, or its first item that does not spell a range is not a string or is such a string, or the
-- boundaries that all items spell are not an inversion list.
abbrev pub SaysNone : Data → SetJsonError → Type 0
SaysNone d NotAnArray = (items : Items) → d ≢ array items
SaysNone d (NotAString i) =
    (items : Items) × (d ≡ array items)
    × FailsFirst (λ x. (text : List ℕ) → x ≢ string text) i items
SaysNone d (NotARange i) = (items : Items) × (d ≡ array items) × FailsFirst SpellsNoRange i items
SaysNone d InvalidSet =
    (items : Items) × (ends : List ℕ) × (d ≡ array items) × SayEnds items ends × (¬ (IsValid ends))
SaysNone d Memory = Unit {0}
