-- What an iterator over the keys that a text starts with has left.
use Rattle.std.specs.Prelude.{◌≡◌, ℕ, ℤ, ◌+◌, ◌-◌, ◌≤◌, List, [], ◌∷◌, Option, Some, None, MatchOption, IsNone, length, take}
use Rattle.icu_char16trie.specs.UnitMap.{UnitMap}
use Rattle.icu_char16trie.specs.UnitPlaces.{At, HasPassed}
use Rattle.icu_char16trie.specs.Matches.{matches_from}
use Rattle.icu_char16trie.specs.declared.matches.Matches.{Matches}

-- The matches xs are left, from the prefix of k units on, which the cursor has passed. Without a
-- prefix to report no match is left.
abbrev pub AreLeftAt : At → List ℕ → Option ℕ → UnitMap → List (ℕ × ℤ) → Type 0
AreLeftAt cursor text None m xs = xs ≡ []
AreLeftAt cursor text (Some k) m xs =
    (k ≤ length text)
    × HasPassed cursor m (take k text)
    × (xs ≡ matches_from m text k (length text + 1 - k))

-- The matches xs of a map are still to come.
abbrev pub AreLeft : Matches → UnitMap → List (ℕ × ℤ) → Type 0
AreLeft s m xs = AreLeftAt s.cursor s.text.now s.length m xs

-- The contract of one call of `next`: it returns the first of the matches that were left, or None
-- if none was left. After None it returns only None.
pub record GivesMatch (s : Matches) (r : Option (ℕ × ℤ)) (t : Matches) : Type 0 where
  pub items : (m : UnitMap) (xs : List (ℕ × ℤ)) → AreLeft s m xs
      → MatchOption r (xs ≡ []) (λ x. (rest : List (ℕ × ℤ)) × (xs ≡ x ∷ rest) × AreLeft t m rest)
  pub done : s.length ≡ None → IsNone r
  pub ended : MatchOption r (t.length ≡ None) (λ x. Unit {0})

-- The largest number of prefixes that may still be reported, for a text of `len` units.
abbrev pub fronts_by : ℕ → Option ℕ → ℕ
fronts_by len None = 0
fronts_by len (Some k) = len - k + 1

-- The largest number of prefixes that the iterator may still report.
abbrev pub fronts_left : Matches → ℕ
fronts_left s = fronts_by (length s.text.now) s.length
