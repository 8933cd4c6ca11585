use Rattle.std.proofs.Common.{◌≡◌, ◌≤◌}
use Rattle.icu_trie.specs.Iterators.{iterator_next}
use Rattle.icu_trie.proofs.SetLemmas.{Gathers}
use Rattle.icu_trie.proofs.cptrie.CodePointTrie.ends_of_value.Given as goal

-- The boundaries of the ranges so far.
abbrev pub invariant-loop-run : goal.invariant-loop-run
invariant-loop-run g l = record {
  next : l.next ≡ iterator_next l.run-iterator;
  within : l.next ≤ 0x110000;
  gathers : Gathers l.value l.yielded l.next l.ends.items;
}
