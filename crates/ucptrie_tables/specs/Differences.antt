-- The ranges in which two tries have different values, and the lines that say so.
use Rattle.std.specs.Prelude.{◌≡◌, ◌≢◌, ◌==◌, ℕ, ◌+◌, ◌<◌, ◌≤◌, nat_lt, List, [], ◌∷◌, ◌++◌, Option, Some, codes, if◌then◌else◌}
use Rattle.std.specs.List.{flat_map}
use Rattle.icu_trie.specs.Parts.{Parts, last_cell, trie_value}
use Rattle.icu_trie_core.specs.Range.{first_of, last_of}
use Rattle.icu_trie_core.specs.Runs.{LongestRun}
use Rattle.icu_trie_core.specs.declared.range.CodePointMapRange.{CodePointMapRange}
use Rattle.ucptab_table.specs.TableText.{decimal_text, hex_text}

module _ (a b : Parts ℕ) where
  -- The values of a number in the two tries.
  abbrev pub both_values : ℕ → Option ℕ × Option ℕ
  both_values u = (trie_value a u, trie_value b u)

  -- From c to before `end` the two tries have the same values.
  abbrev pub AreSame : ℕ → ℕ → Type 0
  AreSame c end = (u : ℕ) → c ≤ u → u < end → trie_value a u ≡ trie_value b u

  -- The longest run of two values from its first code point on; the two values are different.
  pub record IsDifference (d : CodePointMapRange (ℕ × ℕ)) : Type 0 where
    pub run : LongestRun both_values (first_of d) (last_of d) (Some d.value.0, Some d.value.1)
    pub different : d.value.0 ≢ d.value.1

  -- From c on, the tries differ in these ranges and nowhere else.
  abbrev pub AreDifferencesFrom : ℕ → List (CodePointMapRange (ℕ × ℕ)) → Type 0
  AreDifferencesFrom c [] = AreSame c 0x110000
  AreDifferencesFrom c (d ∷ ds) =
      (c ≤ first_of d) × AreSame c (first_of d) × IsDifference d
      × AreDifferencesFrom (last_of d + 1) ds

-- The end of a line, `;A;B` LF: A is the value of the first trie, and B that of the second.
abbrev pub values_text : ℕ × ℕ → List ℕ
values_text values = 59 ∷ (decimal_text values.0 ++ (59 ∷ (decimal_text values.1 ++ (10 ∷ []))))

-- The line of a range, `HEX..HEX;A;B` LF, or `HEX;A;B` LF if it is one code point.
unfoldable pub difference_line : CodePointMapRange (ℕ × ℕ) → List ℕ
difference_line d =
    if nat_lt (first_of d) (last_of d)
    then hex_text (first_of d) ++ (46 ∷ (46 ∷ (hex_text (last_of d) ++ values_text d.value)))
    else hex_text (last_of d) ++ values_text d.value

-- The lines of all these ranges, in order.
abbrev pub difference_lines : List (CodePointMapRange (ℕ × ℕ)) → List ℕ
difference_lines ds = flat_map difference_line ds

-- The line of the two error values, a comment, if they differ.
unfoldable pub error_line : ℕ → ℕ → List ℕ
error_line first second =
    if first == second then [] else codes "# above 10FFFF" ++ values_text (first, second)

-- The text has a line for each range in which the two tries differ, in order, and then the line of
-- their error values.
pub record IsDifferenceText (a b : Parts ℕ) (text : List ℕ) : Type 0 where
  pub ranges : List (CodePointMapRange (ℕ × ℕ))
  pub all : AreDifferencesFrom a b 0 ranges
  pub first : ℕ
  pub first_is : last_cell a.values ≡ Some first
  pub second : ℕ
  pub second_is : last_cell b.values ≡ Some second
  pub lines : text ≡ difference_lines ranges ++ error_line first second
