use Rattle.icu_collections_c.specs.BytesTrie.{parts_in}
use Rattle.icu_collections_c.proofs.RangeLemmas.{HasWritten}
use Rattle.icu_collections_c.proofs.ranges.write_ranges.Given as goal

-- The ranges so far are written, one after another.
abbrev pub invariant-loop-i : goal.invariant-loop-i
invariant-loop-i g l =
    HasWritten g.T.TrieValue.of_number g.T.TrieValue.number (parts_in g.T.AsULE.unpack g.T.AsULE.WIDTH l.trie) l.c l.initial.ranges
    l.ranges l.next l.i
