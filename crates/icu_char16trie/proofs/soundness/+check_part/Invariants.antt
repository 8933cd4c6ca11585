use Rattle.icu_char16trie.proofs.soundness.+check_part.Given as goal

abbrev pub decreases-check_part : goal.decreases-check_part
decreases-check_part l = l.count
