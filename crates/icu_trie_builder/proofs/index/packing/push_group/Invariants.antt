use Rattle.std.proofs.Common.{◌+◌, ◌*◌}
use Rattle.icu_trie_builder.specs.Inside.Index.IndexParts.{IsGrown, packed_cell}
use Rattle.icu_trie_builder.proofs.index.packing.push_group.Given as goal

abbrev pub invariant-loop-q : goal.invariant-loop-q
invariant-loop-q l = IsGrown (l.q + 1) (λ x. packed_cell l.offsets (9 * l.group + x)) l.fn.packed.items l.packed.items
