use Rattle.icu_trie.proofs.packed_cells.walk_in.Given as goal

abbrev pub ghosts-walk_counted : goal.ghosts-walk_counted
ghosts-walk_counted g a = record { name = a.blank.name; parts = a.blank.parts }
