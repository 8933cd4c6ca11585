use Rattle.icu_invlist.proofs.ValidLists.{run_from_valid}
use Rattle.icu_invlist.proofs.Toggles.{flipped_twice}
use Rattle.icu_invlist.proofs.fill.toggle_both.Goals as goal

pub is_new-new_start-requires : goal.is_new-new_start-requires
is_new-new_start-requires c = rw c.deref.ensures.value (run_from_valid _ c.requires.valid)

pub is_new-new_end-requires : goal.is_new-new_end-requires
is_new-new_end-requires c = rw c.deref-2.ensures.value (run_from_valid _ c.requires.valid)

pub toggle-requires-clause-rises : goal.toggle-requires-clause-rises
toggle-requires-clause-rises c = rw c.reserve_two.ensures.same (run_from_valid _ c.requires.valid)

pub toggle-requires-else-new_start-2-clause-rises : goal.toggle-requires-else-new_start-2-clause-rises
toggle-requires-else-new_start-2-clause-rises c = rw c.reserve_two.ensures.same (run_from_valid _ c.requires.valid)

pub returns-then-new_start-2-clause-valid : goal.returns-then-new_start-2-clause-valid
returns-then-new_start-2-clause-valid c = flipped_twice c.args.ends.now.items c.reserve_two.new.ends.items c.toggle.new.ends.items
    c.toggle-then-new_start-2.new.ends.items
    c.requires.valid c.reserve_two.ensures.same c.toggle.ensures.length c.toggle-then-new_start-2.ensures.rises
    c.toggle-then-new_start-2.ensures.length

pub returns-else-new_start-2-clause-valid : goal.returns-else-new_start-2-clause-valid
returns-else-new_start-2-clause-valid c = flipped_twice c.args.ends.now.items c.reserve_two.new.ends.items
    c.toggle-else-new_start-2.new.ends.items c.toggle-else-new_start-2-2.new.ends.items
    c.requires.valid c.reserve_two.ensures.same c.toggle-else-new_start-2.ensures.length c.toggle-else-new_start-2-2.ensures.rises
    c.toggle-else-new_start-2-2.ensures.length
