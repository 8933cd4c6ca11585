use Rattle.std.proofs.Common.{◌≡◌}
use Rattle.icu_trie_builder.proofs.IndexLemmas.Indexing.{Indexing}
use Rattle.icu_trie_builder.proofs.index.index3.place_index3.Given as goal

abbrev pub invariant-loop-number : goal.invariant-loop-number
invariant-loop-number l = record {
  fast : l.fast ≡ l.initial.fast;
  indexing : Indexing l.start l.fast l.offsets l.number l.store l.cells.items;
}
