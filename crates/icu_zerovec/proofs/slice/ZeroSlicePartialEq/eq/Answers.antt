-- What the comparison of the bytes says about the lists.
use Rattle.icu_zerovec.specs.Slice.{slice_values}
use Rattle.icu_zerovec.proofs.SameLemmas.{told_value, told_same}
use Rattle.icu_zerovec.proofs.slice.ZeroSlicePartialEq.eq.Goals as goal

pub returns-clause-value : goal.returns-clause-value
returns-clause-value g c = told_value g.T.AsULE.pack (slice_values c.args.self.now)
    (slice_values c.args.other.now) c.same.result c.same.ensures

pub returns-clause-same : goal.returns-clause-same
returns-clause-same g c = told_same g.T.AsULE.pack (slice_values c.args.self.now)
    (slice_values c.args.other.now) c.same.result c.same.ensures
