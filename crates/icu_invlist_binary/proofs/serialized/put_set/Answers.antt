use Rattle.std.proofs.Common.{arith}
use Rattle.icu_zerovec.specs.Slice.{slice_values}
use Rattle.icu_invlist_binary.proofs.PutLemmas.{length_of_set, set_put}
use Rattle.icu_invlist_binary.proofs.serialized.put_set.Goals as goal

pub put_head-at-requires-clause-room : goal.put_head-at-requires-clause-room
put_head-at-requires-clause-room c =
    let a = length_of_set (slice_values c.args.ends) c.args.counts.units c.args.counts.singles c.requires.units c.requires.singles in
    let b = c.requires.room in omega arith

pub put_ends-requires : goal.put_ends-requires
put_ends-requires c =
    let a = length_of_set (slice_values c.args.ends) c.args.counts.units c.args.counts.singles c.requires.units c.requires.singles in
    let b = c.requires.room in
    let d = c.put_head-at.ensures.place in
    let e = c.put_head-at.ensures.put.same_length in
    let f = c.requires.units in omega arith

pub returns : goal.returns
returns c = set_put (slice_values c.args.ends) c.args.target.now c.put_head-at.new.target c.put_ends.new.target c.args.counts.units
    c.args.counts.singles c.put_head-at.result c.requires.units
    c.requires.singles c.put_head-at.ensures.place c.put_head-at.ensures.put c.put_ends.ensures
