use Rattle.std.proofs.Common.{◌∙◌, arith, rules}
use Rattle.std.proofs.lemmas.List.{length-set}
use Rattle.icu_frozen_sets.proofs.BlockLemmas.{none_more, one_more}
use Rattle.icu_frozen_sets.proofs.bits.fill.Goals as goal

pub loop-k-init : goal.loop-k-init
loop-k-init c = record {
  order = omega arith;
  len = search rules;
  all = none_more c.args.from c.args.word c.args.words.now;
}

pub loop-k-preserved : goal.loop-k-preserved
loop-k-preserved c =
    let l = c.loop-k in
    let i = l.invariant in
    let order = i.order in
    record {
      order = omega (arith, order);
      len = length-set l.words l.k c.args.word ∙ i.len;
      all = one_more c.args.from l.k c.args.word c.args.words.now l.words i.order
          (omega (arith, i.len, c.loop-k-test.true, c.requires.there)) i.all;
    }
