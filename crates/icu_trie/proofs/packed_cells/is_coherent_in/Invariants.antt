use Rattle.icu_trie.proofs.packed_cells.is_coherent_in.Given as goal

abbrev pub ghosts-is_coherent_counted : goal.ghosts-is_coherent_counted
ghosts-is_coherent_counted g a = record { name = a.blank.name; parts = a.blank.parts }
