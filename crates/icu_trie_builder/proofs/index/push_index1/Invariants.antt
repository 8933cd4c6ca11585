use Rattle.std.proofs.Common.{◌+◌, slice_index}
use Rattle.icu_trie_builder.specs.Inside.Index.IndexParts.{IsGrown}
use Rattle.icu_trie_builder.proofs.index.push_index1.Given as goal

abbrev pub invariant-loop-place : goal.invariant-loop-place
invariant-loop-place l = IsGrown l.place-index (λ j. l.start + slice_index l.places j) l.initial.index.items l.index.items
