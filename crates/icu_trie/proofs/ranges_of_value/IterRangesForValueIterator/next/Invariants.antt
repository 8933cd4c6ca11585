use Rattle.std.proofs.Common.{◌≡◌, ◌-◌, ◌≤◌, List, []}
use Rattle.std.specs.Iterator.{Yields}
use Rattle.icu_trie_core.specs.declared.range.CodePointMapRange.{CodePointMapRange}
use Rattle.icu_trie.specs.Iterators.{GivesNextRange, iterator_next}
use Rattle.icu_trie.specs.RangesOfValue.{with_value}
use Rattle.icu_trie.proofs.ranges_of_value.IterRangesForValueIterator.next.Given as goal

-- The ranges so far have other values.
abbrev pub invariant-loop-range : goal.invariant-loop-range
invariant-loop-range g l = (l.self.value ≡ l.fn.self.value) × (iterator_next l.fn.self.ranges ≤ iterator_next l.self.ranges)
    × ((passed : List (CodePointMapRange g.row.T.Denot))
    × Yields (GivesNextRange g.T.TrieValue.of_number) l.fn.self.ranges passed l.self.ranges
    × (with_value g.T.PartialEq.eq l.fn.self.value passed ≡ []))

abbrev pub decreases-loop-range : goal.decreases-loop-range
decreases-loop-range g l = 0x110000 - iterator_next l.self.ranges
