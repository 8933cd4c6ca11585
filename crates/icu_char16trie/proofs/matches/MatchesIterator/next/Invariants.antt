use Rattle.std.proofs.Common.{◌≡◌, ℕ, ℤ, ◌≤◌, List, None}
use Rattle.icu_char16trie.specs.UnitMap.{UnitMap}
use Rattle.icu_char16trie.specs.MatchesLeft.{AreLeft, fronts_left}
use Rattle.icu_char16trie.proofs.matches.MatchesIterator.next.Given as goal

-- What was left at first is still left.
abbrev pub invariant-loop-self : goal.invariant-loop-self
invariant-loop-self l = record {
  left : (m : UnitMap) (xs : List (ℕ × ℤ)) → AreLeft l.fn.self m xs → AreLeft l.self m xs;
  done : l.fn.self.length ≡ None → l.self.length ≡ None;
  fewer : fronts_left l.self ≤ fronts_left l.fn.self;
}

abbrev pub decreases-loop-self : goal.decreases-loop-self
decreases-loop-self l = fronts_left l.self
