use Rattle.icu_collections_c.proofs.cells.look_up_in.Given as goal

abbrev pub ghosts-look_up_counted : goal.ghosts-look_up_counted
ghosts-look_up_counted g a = record { name = a.blank.name; parts = a.blank.parts }
