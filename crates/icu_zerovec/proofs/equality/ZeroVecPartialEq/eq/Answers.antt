-- What the comparison of the bytes says about the lists.
use Rattle.icu_zerovec.proofs.SameLemmas.{told_value, told_same}
use Rattle.icu_zerovec.proofs.equality.ZeroVecPartialEq.eq.Goals as goal

pub returns-clause-value : goal.returns-clause-value
returns-clause-value g c =
    told_value g.T.AsULE.pack c.args.self.now c.args.other.now c.same.result
    (rw (← c.bytes.ensures.values, ← c.bytes-2.ensures.values) at c.same.ensures)

pub returns-clause-same : goal.returns-clause-same
returns-clause-same g c =
    told_same g.T.AsULE.pack c.args.self.now c.args.other.now c.same.result
    (rw (← c.bytes.ensures.values, ← c.bytes-2.ensures.values) at c.same.ensures)
