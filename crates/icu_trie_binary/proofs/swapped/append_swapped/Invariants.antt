-- This many groups were appended.
use Rattle.std.proofs.Common.{◌≡◌, ◌++◌}
use Rattle.icu_trie_binary.specs.SwappedTrie.{swapped_groups}
use Rattle.icu_trie_binary.proofs.swapped.append_swapped.Given as goal

abbrev pub invariant-loop-i : goal.invariant-loop-i
invariant-loop-i l = l.into.items ≡ l.fn.into.items ++ swapped_groups l.width l.i l.bytes
