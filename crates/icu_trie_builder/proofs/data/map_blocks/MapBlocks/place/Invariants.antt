use Rattle.std.proofs.Common.{◌+◌, ◌-◌, ◌≤◌, max, length}
use Rattle.icu_trie_builder.specs.Inside.MapBlocks.{numbers_of}
use Rattle.icu_trie_builder.proofs.CompactionLemmas.Compacting.{Compacting}
use Rattle.icu_trie_builder.proofs.data.map_blocks.MapBlocks.place.Given as goal

abbrev pub invariant-loop-j : goal.invariant-loop-j
invariant-loop-j l = record {
  within : l.j ≤ l.count;
  placed : Compacting l.self.size l.first l.j (numbers_of l.self) l.initial.store l.store l.offsets.items;
  capped : length l.store ≤ max (length l.initial.store) (0x3ffff + l.self.size);
}

abbrev pub decreases-loop-j : goal.decreases-loop-j
decreases-loop-j l = l.count - l.j
