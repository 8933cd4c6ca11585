use Rattle.std.proofs.Common.{arith}
use Rattle.std.proofs.lemmas.Bool.{le-leb}
use Rattle.icu_invlist.proofs.PlaceLemmas.{first_within, last_within}
use Rattle.icu_invlist.proofs.codepointinvlist.cpinvlist.CodePointInversionList.spans.Goals as goal

pub returns-then-end_at : goal.returns-then-end_at
returns-then-end_at c = λ sub.
    let l = last_within c.args.other.now c.args.self.now c.count-others.result c.count-count.result c.count-others.ensures.valid
    c.count-count.ensures.valid
    c.count-others.ensures.count c.count-count.ensures.count
    (let k = c.count-others.ensures.count in let r = c.requires.others in omega arith)
    (let k = c.count-count.ensures.count in let r = c.requires.some in omega arith) sub in
    le-leb _ _ (let x = c.end_at-then-end_at.ensures.end in let y = c.end_at-then-end_at-2.ensures.end in omega arith)

pub returns-else-end_at : goal.returns-else-end_at
returns-else-end_at c = λ sub.
    let l = first_within c.args.other.now c.args.self.now c.count-others.ensures.valid c.count-count.ensures.valid c.requires.others sub in
    le-leb _ _ (let x = c.end_at.ensures.end in let y = c.end_at-2.ensures.end in omega arith)
