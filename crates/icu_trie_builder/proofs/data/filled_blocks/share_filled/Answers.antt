use Rattle.std.proofs.Common.{rules, arith}
use Rattle.icu_trie_builder.proofs.SharedLemmas.{moved-shared}
use Rattle.icu_trie_builder.proofs.data.filled_blocks.share_filled.Goals as goal

pub returns : goal.returns
returns c = moved-shared c.args.cells.now c.args.places.now c.args.small.now c.loop-offset.small c.requires.places (search rules)
    c.requires.small
    (λ j l. c.loop-offset.invariant.done j (omega (arith, l, c.loop-offset-test.false, c.loop-offset.auto.offset-index-end)))
