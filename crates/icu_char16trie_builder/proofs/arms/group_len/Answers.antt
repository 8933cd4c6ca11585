use Rattle.icu_char16trie_builder.proofs.CutLemmas.{group_step, is_by}
use Rattle.icu_char16trie_builder.proofs.arms.group_len.Goals as goal

pub loop-i-preserved : goal.loop-i-preserved
loop-i-preserved c =
    group_step c.args.depth c.args.unit c.loop-i.i c.args.entries.now c.split_at.result.1.now c.first_unit.result c.split_at.ensures.back
    c.first_unit.ensures
    (is_by c.first_unit.result c.args.unit c.ne.result c.ne.ensures c.if-ne.false) c.loop-i.invariant
