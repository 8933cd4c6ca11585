use Rattle.std.proofs.Common.{slice_index}
use Rattle.icu_trie_builder.specs.Inside.Index.IndexParts.{IsGrown}
use Rattle.icu_trie_builder.proofs.index.push_fast.Given as goal

abbrev pub invariant-loop-offset : goal.invariant-loop-offset
invariant-loop-offset l = IsGrown l.offset-index (slice_index l.fast) l.initial.index.items l.index.items
