use Rattle.std.proofs.Common.{arith}
use Rattle.icu_char16trie_builder.proofs.CutLemmas.{share_step}
use Rattle.icu_char16trie_builder.proofs.arms.shared_len.Goals as goal

pub loop-i-preserved : goal.loop-i-preserved
loop-i-preserved c =
    let step = share_step c.args.depth c.shared_by_first-shared.result c.loop-i.shared c.loop-i.i c.args.units.now c.split_at.result.0.now
    c.args.entries.now c.split_at-in-loop-i.result.1.now
    c.split_at.ensures.front c.split_at-in-loop-i.ensures.back c.loop-i.invariant.within c.shared_by_first-shared.ensures.within
    c.loop-i.invariant.share c.shared_by_first-shared.ensures.share in
    record {
      within = omega (arith, step.0, c.loop-i.invariant.within);
      few = omega (arith, step.0, c.loop-i.invariant.few);
      share = step.1;
    }
