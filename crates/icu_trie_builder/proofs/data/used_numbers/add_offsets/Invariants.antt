use Rattle.std.proofs.Common.{◌+◌, ◌<◌, ◌≤◌, length}
use Rattle.icu_trie_builder.proofs.data.used_numbers.add_offsets.Given as goal

abbrev pub invariant-loop-offset : goal.invariant-loop-offset
invariant-loop-offset l = record {
  bound : l.count ≤ l.offset-index;
  inside : 0 < l.count → l.last + l.size ≤ length l.cells;
}
