-- The ranges are written one after another.
use Rattle.std.proofs.Common.{refl, ap, arith, ◌+◌}
use Rattle.icu_collections_c.specs.BytesTrie.{parts_in}
use Rattle.icu_collections_c.proofs.RangeLemmas.{written_more, written_none}
use Rattle.icu_collections_c.proofs.ranges.write_ranges.Goals as goal

pub loop-i-init : goal.loop-i-init
loop-i-init g c =
    written_none g.T.TrieValue.of_number g.T.TrieValue.number (parts_in g.T.AsULE.unpack g.T.AsULE.WIDTH c.args.trie.now) c.args.c
    c.args.ranges.now

pub loop-i-preserved : goal.loop-i-preserved
loop-i-preserved g c =
    written_more g.T.TrieValue.of_number g.T.TrieValue.number (parts_in g.T.AsULE.unpack g.T.AsULE.WIDTH c.args.trie.now) c.args.c
    c.args.ranges.now c.loop-i.ranges c.loop-i.next c.loop-i.i c.in-Some.range _ _ c.loop-i.invariant (omega arith)
    (rw c.header_of-header.ensures at c.in-Some.ensures.gives) (rw c.header_of-header.ensures at c.in-Some.ensures.longest)
    (rw c.told.ensures refl) (ap (λ n. n + 1) c.end.ensures)
