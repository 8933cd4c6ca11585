use Rattle.std.proofs.Common.{◌≡◌, arith}
use Rattle.icu_trie_builder.proofs.MapLemmas.{written-none, written-one, written-on}
use Rattle.icu_trie_builder.proofs.map.blocks.fill_range.Goals as goal

pub loop-i-init : goal.loop-i-init
loop-i-init c = written-none _ _ _

pub loop-i-preserved : goal.loop-i-preserved
loop-i-preserved c = written-on (omega arith) (omega arith) c.loop-i.invariant
    (written-one c.loop-i.cells c.loop-i.i c.args.number (omega arith))

pub returns : goal.returns
returns c = let e : c.loop-i.i ≡ c.args.end = omega arith in rw e at c.loop-i.invariant
