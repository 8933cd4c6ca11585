use Rattle.icu_char16trie.proofs.pending.Pending.+split_part.Given as goal

abbrev pub decreases-split_part : goal.decreases-split_part
decreases-split_part l = l.count
