use Rattle.std.proofs.Common.{◌≡◌, Err, sym, rules}
use Rattle.ucptrie_sets.proofs.TomlLemmas.{all_read, none_read, one_more_read, refused, stops_reading}
use Rattle.ucptrie_sets.proofs.toml_file.set_of_items.Goals as goal

pub loop-i-init : goal.loop-i-init
loop-i-init c = none_read c.args.items.now _ c.new-builder.ensures

pub loop-i-preserved : goal.loop-i-preserved
loop-i-preserved c = one_more_read c.args.items.now c.loop-i.i c.index-items-i.result c.loop-i.builder c.add_range.new.builder
    c.in_ok-range.range c.loop-i.invariant c.loop-i-test.true c.index-items-i.is (sym c.in_ok-range.ensures.exact) c.in_ok-add_range.ensures

pub returns-in_err-range-clause-err : goal.returns-in_err-range-clause-err
returns-in_err-range-clause-err c =
    let given : c.from_residual.result ≡ Err c.in_err-range.field-0.0 = search rules in
    rw given (refused _ _ (stops_reading c.args.items.now c.loop-i.i c.index-items-i.result c.loop-i.builder _ c.loop-i.invariant
    c.loop-i-test.true c.index-items-i.is (sym c.in_err-range.ensures.exact)))

pub returns-clause-ok : goal.returns-clause-ok
returns-clause-ok c = all_read c.args.items.now c.loop-i.i c.loop-i.builder c.loop-i.invariant c.loop-i-test.false _ c.in_ok-set.ensures.ok
