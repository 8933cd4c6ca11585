use Rattle.std.proofs.Common.{take}
use Rattle.icu_char16trie_builder.specs.Sorted.{pair_map, IsInOrder}
use Rattle.icu_char16trie_builder.proofs.sorted.first_refused.Given as goal

abbrev pub invariant-loop-i : goal.invariant-loop-i
invariant-loop-i l = IsInOrder (take l.i (pair_map l.entries))
