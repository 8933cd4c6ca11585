use Rattle.std.proofs.Common.{◌≡◌, ◌++◌}
use Rattle.icu_char16trie_builder.specs.Inside.Cuts.{cut}
use Rattle.icu_char16trie_builder.specs.Entries.{entry_map}
use Rattle.icu_char16trie_builder.proofs.builder.entries_of.Given as goal

abbrev pub invariant-loop-key : goal.invariant-loop-key
invariant-loop-key l = cut 0 l.list.items ++ entry_map l.key-iterator ≡ entry_map l.entries.entries
