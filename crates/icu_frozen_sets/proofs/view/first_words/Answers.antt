use Rattle.std.proofs.Common.{◌∙◌, arith}
use Rattle.std.proofs.lemmas.List.{length-set}
use Rattle.icu_frozen_sets.proofs.FrozenWordLemmas.{first_bits, high_more, low_more}
use Rattle.icu_frozen_sets.proofs.view.first_words.Goals as goal

pub loop-k-preserved : goal.loop-k-preserved
loop-k-preserved c =
    let l = c.loop-k in
    let i = l.invariant in
    let few = c.loop-k-test.true in
    record {
      all = length-set _ _ _ ∙ (length-set l.words l.k c.word.result ∙ i.all);
      low = low_more c.args.table.now l.words c.place_of-first.result l.k c.word.result c.word-in-loop-k.result i.all few c.word.ensures i.low;
      high = high_more c.args.table.now l.words c.place_of-second.result l.k c.word.result c.word-in-loop-k.result i.all few c.word-in-loop-k.ensures i.high;
    }

pub returns : goal.returns
returns c = first_bits c.args.table.now c.loop-k.words c.place_of-first.result c.place_of-second.result c.place_of-first.ensures
    c.place_of-second.ensures (λ i l. c.loop-k.invariant.low i (omega (arith, l))) (λ i l. c.loop-k.invariant.high i (omega (arith, l)))
