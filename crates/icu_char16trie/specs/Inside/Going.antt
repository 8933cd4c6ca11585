-- How an iterator over the keys that a text starts with advances to the next prefix.
use Rattle.std.specs.Prelude.{◌≡◌, ℕ, ◌+◌, ◌-◌, ◌<◌, ◌≤◌, length, take}
use Rattle.icu_char16trie.specs.UnitMap.{UnitMap}
use Rattle.icu_char16trie.specs.UnitPlaces.{HasPassed}
use Rattle.icu_char16trie.specs.Matches.{matches_from}
use Rattle.icu_char16trie.specs.MatchesLeft.{AreLeft, fronts_left}
use Rattle.icu_char16trie.specs.declared.matches.Matches.{Matches}

-- The prefix of k units has been reported. What is left are the matches of the longer prefixes.
pub record GoesOn (old : Matches) (k : ℕ) (new : Matches) : Type 0 where
  pub text : new.text ≡ old.text
  pub left : (m : UnitMap) → k ≤ length old.text.now → HasPassed old.cursor m (take k old.text.now)
      → AreLeft new m (matches_from m old.text.now (k + 1) (length old.text.now - k))
  pub fewer : fronts_left new < length old.text.now - k + 1
