use Rattle.std.proofs.Common.{◌≡◌, ◌<◌}
use Rattle.icu_trie_core.specs.Blocks.{window}
use Rattle.icu_trie_builder.specs.Inside.Compaction.Hashes.{cells_hash}
use Rattle.icu_trie_builder.specs.Inside.Compaction.Windows.{IsTable}
use Rattle.icu_trie_builder.proofs.compaction.window_table.WindowTable.enter_all.Given as goal

abbrev pub invariant-loop-at : goal.invariant-loop-at
invariant-loop-at l = record {
  size : l.self.size ≡ l.size;
  entered : l.self.entered ≡ l.at;
  table : IsTable l.cells l.self;
  hash : l.at < l.count → l.hash ≡ cells_hash (window l.size l.at l.cells);
}
