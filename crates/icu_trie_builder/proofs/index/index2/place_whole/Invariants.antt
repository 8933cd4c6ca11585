use Rattle.std.proofs.Common.{◌+◌, ◌*◌, ◌≤◌, length}
use Rattle.icu_trie_core.specs.Blocks.{block}
use Rattle.icu_trie_builder.proofs.CompactionLemmas.Compacting.{Compacting}
use Rattle.icu_trie_builder.proofs.index.index2.place_whole.Given as goal

abbrev pub invariant-loop-number : goal.invariant-loop-number
invariant-loop-number l = record {
  placed : Compacting 32 0 l.number (block 32 l.cells) l.initial.store l.store l.places.items;
  short : length l.store ≤ length l.initial.store + 32 * l.number;
}
