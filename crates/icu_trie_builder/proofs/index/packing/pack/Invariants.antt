use Rattle.std.proofs.Common.{◌*◌, []}
use Rattle.icu_trie_builder.specs.Inside.Index.IndexParts.{IsGrown, packed_cell}
use Rattle.icu_trie_builder.proofs.index.packing.pack.Given as goal

abbrev pub invariant-loop-group : goal.invariant-loop-group
invariant-loop-group l = IsGrown (9 * l.group) (packed_cell l.offsets) [] l.packed.items
