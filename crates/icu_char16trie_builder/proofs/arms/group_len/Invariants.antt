use Rattle.std.proofs.Common.{take}
use Rattle.icu_char16trie_builder.specs.Inside.Cuts.{IsGroup}
use Rattle.icu_char16trie_builder.proofs.arms.group_len.Given as goal

abbrev pub invariant-loop-i : goal.invariant-loop-i
invariant-loop-i l = IsGroup l.depth l.unit (take l.i l.entries)
