use Rattle.examples.proofs.own_cells.look_up_in_slices.Given as goal

abbrev pub ghosts-look_up_counted : goal.ghosts-look_up_counted
ghosts-look_up_counted a = record { name = a.blank.name; parts = a.blank.parts }
