-- The units of a text that are still to be read.
use Rattle.std.specs.Prelude.{◌≡◌, ℕ, ℤ, List, ◌∷◌, ◌++◌, Option, Some, None, IfSome, MatchOption, drop}
use Rattle.std.specs.Int.{IsInRange}
use Rattle.std.specs.Str.{IsUtf8, chars}
use Rattle.icu_char16trie.specs.Matches.{text_units}
use Rattle.icu_char16trie.specs.Inside.Fronts.{LeadsByMatch, LeadsToNode, NoneHasValue, longer}
use Rattle.icu_char16trie.specs.declared.place.Place.{Place}
use Rattle.icu_char16trie.specs.declared.text_units.TextUnits.{TextUnits}

-- The units w after the second unit of a character, if it is still to be read.
abbrev pub after_second : Option ℕ → List ℕ → List ℕ
after_second None w = w
after_second (Some u) w = u ∷ w

-- The units that are still to be read.
abbrev pub units_left : TextUnits → List ℕ
units_left t = after_second t.second (text_units t.rest.now)

-- They are those of text in UTF-8, and the second unit of a character is a trail surrogate.
pub record AreTextUnits (t : TextUnits) : Type 0 where
  pub utf8 : IsUtf8 t.rest.now
  pub second : IfSome t.second (λ u. IsInRange 0xDC00 0xDFFF u)

-- The whole characters that are left in t are the last of those that are left in s.
abbrev pub AreLast : TextUnits → TextUnits → Type 0
AreLast t s = (front : List ℕ) × (chars s.rest.now ≡ front ++ chars t.rest.now)

-- The longest match once the prefix of n bytes is looked up, given the longest match before it. If
-- the second unit of a character is still to be read, the prefix does not count.
abbrev pub longer_after : Option ℕ → ℕ → Option ℤ → Option (ℕ × ℤ) → Option (ℕ × ℤ)
longer_after None n v found = longer n v found
longer_after (Some second) n v found = found

-- From such a position the text leads to a node after a number of units, and `left` are the others,
-- or no non-empty prefix of the text has a value.
abbrev pub PassesUnits : List ℕ → List ℕ → ℕ → ℕ → Option ℕ → List ℕ → Type 0
PassesUnits units text p low r left =
    (from : Place) → LeadsByMatch units from p low
    → MatchOption r (NoneHasValue units from text)
    (λ q. (n : ℕ) × LeadsToNode units from text q n × (left ≡ drop n text))
