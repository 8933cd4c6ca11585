use Rattle.std.proofs.Common.{◌≡◌, take}
use Rattle.icu_char16trie_builder.specs.Sorted.{pair_map}
use Rattle.icu_char16trie_builder.specs.Inside.Cuts.{cut}
use Rattle.icu_char16trie_builder.proofs.sorted.entries_of_pairs.Given as goal

-- The entries so far.
abbrev pub invariant-loop-key : goal.invariant-loop-key
invariant-loop-key l = cut 0 l.list.items ≡ pair_map (take l.key-index l.pairs)
