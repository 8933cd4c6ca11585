use Rattle.std.proofs.Common.{◌+◌, arith, false}
use Rattle.icu_invlist.proofs.RunLemmas.{ends_below-mono}
use Rattle.icu_invlist.proofs.ValidLists.{run_from_valid}
use Rattle.icu_invlist.proofs.Splices.{filled, plain, side_room}
use Rattle.icu_invlist.proofs.fill.clear_side.Goals as goal

pub count_below-lower-requires : goal.count_below-lower-requires
count_below-lower-requires c = rw c.deref.ensures.value (run_from_valid _ c.requires.valid)

pub count_below_from-upper-requires-clause-rises : goal.count_below_from-upper-requires-clause-rises
count_below_from-upper-requires-clause-rises c = rw c.deref-2.ensures.value (run_from_valid _ c.requires.valid)

pub count_below_from-upper-requires-clause-from : goal.count_below_from-upper-requires-clause-from
count_below_from-upper-requires-clause-from c = rw (c.count_below-lower.ensures.count, c.deref.ensures.value, c.deref-2.ensures.value)
    (ends_below-mono c.args.ends.now.items c.args.start (c.args.end + 1) (let r = c.requires.rises in omega arith))

pub overwrite-requires-clause-room : goal.overwrite-requires-clause-room
overwrite-requires-clause-room c = side_room c.args.ends.now.items c.count_below-lower.result c.count_below_from-upper.result c.args.start
    c.args.end
    c.requires.valid c.requires.rises c.requires.within (cc) (cc) c.requires.side

pub returns-clause-valid : goal.returns-clause-valid
returns-clause-valid c =
    (filled c.args.ends.now.items c.overwrite.new.ends.items c.count_below-lower.result c.count_below_from-upper.result c.args.start
    c.args.end false _ _
    c.requires.valid c.requires.rises c.requires.within (cc) (cc) (plain c.count_below-lower.result)
    (plain c.count_below_from-upper.result) c.overwrite.ensures).0

pub returns-clause-set : goal.returns-clause-set
returns-clause-set c =
    (filled c.args.ends.now.items c.overwrite.new.ends.items c.count_below-lower.result c.count_below_from-upper.result c.args.start
    c.args.end false _ _
    c.requires.valid c.requires.rises c.requires.within (cc) (cc) (plain c.count_below-lower.result)
    (plain c.count_below_from-upper.result) c.overwrite.ensures).1
