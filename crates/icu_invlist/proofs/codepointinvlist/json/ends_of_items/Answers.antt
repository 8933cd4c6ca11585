use Rattle.std.proofs.Common.{Some, None, sym}
use Rattle.serde_json.specs.View.{view}
use Rattle.icu_invlist.proofs.JsonLemmas.{none_read, one_more_read, fault_read, all_read, or_no_string, or_range}
use Rattle.icu_invlist.proofs.codepointinvlist.json.ends_of_items.Goals as goal

pub loop-i-init : goal.loop-i-init
loop-i-init c = none_read c.args.items.now _ c.new-ends.ensures.items

pub returns-in_default : goal.returns-in_default
returns-in_default c = fault_read c.args.items.now c.loop-i.i c.index-items-i.result c.loop-i.ends.items _ c.loop-i.invariant
    c.loop-i-test.true c.index-items-i.is
    (or_no_string c.loop-i.i (view c.index-items-i.result) (sym c.in_default.ensures))

pub returns-in_default-range_of : goal.returns-in_default-range_of
returns-in_default-range_of c = fault_read c.args.items.now c.loop-i.i c.index-items-i.result c.loop-i.ends.items _ c.loop-i.invariant
    c.loop-i-test.true c.index-items-i.is
    (or_range c.loop-i.i (view c.index-items-i.result) c.in-Some.text.now None (sym c.in-Some.ensures)
    (sym c.in_default-range_of.ensures.exact))

pub loop-i-preserved : goal.loop-i-preserved
loop-i-preserved c = one_more_read c.args.items.now c.loop-i.i c.index-items-i.result c.loop-i.ends.items c.push_two.new.ends.items
    c.in-Some-range_of.first c.in-Some-range_of.last
    c.loop-i.invariant c.loop-i-test.true c.index-items-i.is
    (or_range c.loop-i.i (view c.index-items-i.result) c.in-Some.text.now (Some (c.in-Some-range_of.first, c.in-Some-range_of.last))
    (sym c.in-Some.ensures) (sym c.in-Some-range_of.ensures.exact))
    c.in-Ok.ensures

pub returns : goal.returns
returns c = all_read c.args.items.now c.loop-i.i c.loop-i.ends.items c.loop-i.invariant c.loop-i-test.false
