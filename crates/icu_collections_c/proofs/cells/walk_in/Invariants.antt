use Rattle.icu_collections_c.proofs.cells.walk_in.Given as goal

abbrev pub ghosts-walk_counted : goal.ghosts-walk_counted
ghosts-walk_counted g a = record { name = a.blank.name; parts = a.blank.parts }
