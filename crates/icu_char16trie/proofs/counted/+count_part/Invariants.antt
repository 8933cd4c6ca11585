use Rattle.icu_char16trie.proofs.counted.+count_part.Given as goal

abbrev pub decreases-count_part : goal.decreases-count_part
decreases-count_part l = l.count
