use Rattle.std.proofs.Common.{◌+◌, ◌-◌}
use Rattle.icu_invlist.specs.Inside.MergeSteps.{MergeSteps}
use Rattle.icu_invlist.proofs.merge.pass_all.Given as goal

abbrev pub ghost-pass_some : goal.ghost-pass_some
ghost-pass_some g a = g.base

abbrev pub invariant-loop-walk : goal.invariant-loop-walk
invariant-loop-walk g l = MergeSteps g.O.SetOperation.gives (g.A.Boundaries.list l.fn.a) (g.B.Boundaries.list l.fn.b) g.base l.out l.walk.first l.walk.second l.walk.written

abbrev pub decreases-loop-walk : goal.decreases-loop-walk
decreases-loop-walk g l = (l.first_count - l.walk.first) + (l.second_count - l.walk.second)
