use Rattle.std.proofs.Common.{take}
use Rattle.icu_trie_builder.specs.CodePointMap.{IsAfter}
use Rattle.icu_trie_builder.proofs.builder.CodePointTrieBuilder.apply.Given as goal

abbrev pub invariant-loop-i : goal.invariant-loop-i
invariant-loop-i g l = IsAfter (take l.i l.writes) l.initial.self l.self
