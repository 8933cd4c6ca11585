-- One more equal block.
use Rattle.std.proofs.Common.{arith}
use Rattle.icu_zerovec.proofs.SameLemmas.{block_more}
use Rattle.icu_zerovec.proofs.cells.same_blocks.Goals as goal

pub loop-at-preserved : goal.loop-at-preserved
loop-at-preserved c = record {
  within = omega arith;
  same = block_more c.loop-at.at c.block-step.result _ c.args.a.now c.args.b.now (omega arith) c.if-ne.ensures c.loop-at.invariant.same;
}
