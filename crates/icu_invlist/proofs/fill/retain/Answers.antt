use Rattle.std.proofs.Common.{rules}
use Rattle.icu_invlist.proofs.Splices.{emptied}
use Rattle.icu_invlist.proofs.fill.retain.Goals as goal

pub returns-then-start-last-clause-set : goal.returns-then-start-last-clause-set
returns-then-start-last-clause-set c = λ k h.
    rw c.clear.ensures.items (emptied c.args.ends.now.items c.args.start c.args.end c.min-last.result k (search rules) c.if-start-last.true
    h)
