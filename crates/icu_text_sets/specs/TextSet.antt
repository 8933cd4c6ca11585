-- Sets of code points and strings. A text is given by its bytes in UTF-8. A set contains a text of
-- exactly one character if its code points include that character, and any other text if its
-- strings include it.
use Rattle.std.specs.Prelude.{◌≡◌, ℕ, ◌+◌, ◌<◌, ◌&&◌, List, [], ◌∷◌, map, length, nat_eq, Bool, true, Option, Some, None, String}
use Rattle.std.specs.Global.{Global}
use Rattle.std.specs.List.{list_any}
use Rattle.std.specs.String.{string_bytes}
use Rattle.std.specs.Str.{chars, IsUtf8, bytes_eq}
use Rattle.std.specs.Ordering.{nat_cmp}
use Rattle.std.specs.Cmp.Lexicographic.{slice_cmp, pointwise}
use Rattle.std.specs.declared.cmp.Ordering.{Ordering}
use Rattle.std.specs.declared.cmp.Ordering.TheVariants.{Less}
use Rattle.std.proofs.Math.Utf8.{scalar}
use Rattle.icu_zerovec.specs.CodePoints.{code_point_limit}
use Rattle.icu_invlist.specs.InversionList.{holds, members_below}

-- The boundaries of the code points, and the strings.
pub record TextSet : Type 0 where
  pub code_points : List ℕ
  pub strings : List (List ℕ)

-- ---- texts
-- The character in a list of exactly one.
abbrev pub only_of : List ℕ → Option ℕ
only_of [] = None
only_of (c ∷ []) = Some c
only_of (c ∷ d ∷ cs) = None

-- The character of a text that has exactly one.
abbrev pub only_char : List ℕ → Option ℕ
only_char text = only_of (chars text)

-- The order of texts by their bytes. It is also the order by their code points.
abbrev pub text_cmp : List ℕ → List ℕ → Ordering
text_cmp = slice_cmp nat_cmp

-- Whether the text is one of these.
abbrev pub is_among : List (List ℕ) → List ℕ → Bool
is_among texts text = list_any (λ t. bytes_eq t text) texts

-- The bytes of each string.
abbrev pub texts_of : List (String Global) → List (List ℕ)
texts_of strings = map (λ s. string_bytes s) strings

-- ---- the set
-- No string has exactly one code point, and each string is less than the next by bytes.
abbrev pub IsStringList : List (List ℕ) → Type 0
IsStringList [] = Unit {0}
IsStringList (t ∷ []) = only_char t ≡ None
IsStringList (t ∷ u ∷ ts) = (only_char t ≡ None) × (text_cmp t u ≡ Less) × IsStringList (u ∷ ts)

-- Whether the set contains a text, given its only character if it has exactly one.
abbrev pub member_as : TextSet → List ℕ → Option ℕ → Bool
member_as set text (Some c) = holds set.code_points c
member_as set text None = is_among set.strings text

-- Whether the set contains a text.
abbrev pub member : TextSet → List ℕ → Bool
member set text = member_as set text (only_char text)

-- The number of members of the set: its code points, with surrogates, and its strings.
abbrev pub member_count : TextSet → ℕ
member_count set = members_below set.code_points code_point_limit + length set.strings

-- The set contains exactly these texts, and no surrogates.
abbrev pub HoldsTexts : List (List ℕ) → TextSet → Type 0
HoldsTexts texts set =
    ((text : List ℕ) → IsUtf8 text → member set text ≡ is_among texts text)
    × ((c : ℕ) → c < code_point_limit → holds set.code_points c ≡ true → scalar c ≡ true)

-- ---- equality
-- Whether the sets have the same boundaries and the same strings.
abbrev pub same_set : TextSet → TextSet → Bool
same_set a b = pointwise nat_eq a.code_points b.code_points
    && pointwise bytes_eq a.strings b.strings
