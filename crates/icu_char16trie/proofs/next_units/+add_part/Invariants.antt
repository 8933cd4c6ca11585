use Rattle.icu_char16trie.proofs.next_units.+add_part.Given as goal

abbrev pub decreases-add_part : goal.decreases-add_part
decreases-add_part l = l.count
