use Rattle.icu_char16trie.specs.UnitMap.{UnitMap}
use Rattle.icu_char16trie.specs.Walk.{WalkGives}
use Rattle.icu_char16trie.specs.Inside.Opening.{IsPast}
use Rattle.icu_char16trie.specs.Inside.Walking.{IsOpened}
use Rattle.icu_char16trie.proofs.walk.Walk.find_entry.Given as goal

-- What was to come at first is pending, after the nodes that were read.
abbrev pub invariant-loop-opened : goal.invariant-loop-opened
invariant-loop-opened l = record {
  opened : IsOpened l.fn.self l.self.pending;
  past : (m : UnitMap) → WalkGives l.fn.self m → IsPast l._opened l.self.pending;
}
