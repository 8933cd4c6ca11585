use Rattle.std.proofs.Common.{◌≤◌, ◌-◌}
use Rattle.icu_invlist.specs.Inside.MergeSteps.{MergeSteps}
use Rattle.icu_invlist.proofs.merge.pass_second.Given as goal

abbrev pub invariant-loop-second : goal.invariant-loop-second
invariant-loop-second g l = record {
  walks : MergeSteps g.O.SetOperation.gives (g.A.Boundaries.list l.fn.a) (g.B.Boundaries.list l.fn.b) g.base l.out l.walk.first l.second l.written;
  forward : l.walk.second ≤ l.second;
}

abbrev pub decreases-loop-second : goal.decreases-loop-second
decreases-loop-second g l = l.count - l.second
