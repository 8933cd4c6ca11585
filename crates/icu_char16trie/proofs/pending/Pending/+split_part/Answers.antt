use Rattle.icu_zerovec.specs.Slice.{slice_values}
use Rattle.std.proofs.Common.{sym, arith}
use Rattle.icu_char16trie.proofs.OpeningLemmas.{nothing_opens, split_opens, arms_here, arms_next, arms_low}
use Rattle.icu_char16trie.proofs.pending.Pending.+split_part.Goals as goal

pub returns-in_default : goal.returns-in_default
returns-in_default t c = nothing_opens c.args.self.now c.args.place _
    (arms_here (slice_values c.args.self.now.units) c.args.place c.args.count (sym c.in_default.ensures.unit))

pub returns-in_default-unit_at : goal.returns-in_default-unit_at
returns-in_default-unit_at t c = nothing_opens c.args.self.now c.args.place _
    (arms_next (slice_values c.args.self.now.units) c.args.place c.args.count (omega arith) (sym c.in_default-unit_at.ensures.unit))

pub returns-in_default-lower_part : goal.returns-in_default-lower_part
returns-in_default-lower_part t c =
    nothing_opens c.args.self.now c.args.place _
    (arms_low (slice_values c.args.self.now.units) c.args.place c.args.count c.in-Some._split c.in-Some-unit_at.delta (omega arith)
    (sym c.in-Some.ensures.unit) (sym c.in-Some-unit_at.ensures.unit)
    (sym c.in_default-lower_part.ensures.part))

pub returns : goal.returns
returns t c =
    split_opens c.args.self.now c.put_off.new.self _ c.args.place c.args.count c.in-Some._split c.in-Some-unit_at.delta
    c.in-Some-lower_part.low c.delta_end.result
    (omega arith) (sym c.in-Some.ensures.unit) (sym c.in-Some-unit_at.ensures.unit)
    (sym c.in-Some-lower_part.ensures.part) c.delta_end.ensures.end
    (omega (arith, c.in-Some-lower_part.ensures.above))
    (omega (arith, c.delta_end.ensures.above)) c.in_ok-put_off.ensures c.in_ok-split_part.ensures
