use Rattle.std.proofs.Common.{slice_index, []}
use Rattle.icu_trie_builder.specs.Inside.Index.IndexParts.{IsGrown}
use Rattle.icu_trie_builder.proofs.index.widened.Given as goal

abbrev pub invariant-loop-cell : goal.invariant-loop-cell
invariant-loop-cell l = IsGrown l.cell-index (slice_index l.cells) [] l.wide.items
