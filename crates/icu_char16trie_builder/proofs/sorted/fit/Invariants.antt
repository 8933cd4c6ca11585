use Rattle.std.proofs.Common.{◌≡◌, ◌≤◌, take}
use Rattle.icu_char16trie_builder.specs.Entries.{most_units}
use Rattle.icu_char16trie_builder.specs.Sorted.{pair_map}
use Rattle.icu_char16trie_builder.proofs.sorted.fit.Given as goal

abbrev pub invariant-loop-i : goal.invariant-loop-i
invariant-loop-i l = record { total : most_units (pair_map (take l.i l.entries)) ≡ l.total; few : l.total ≤ 0x7FFF_FFFF }
