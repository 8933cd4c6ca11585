use Rattle.std.proofs.Common.{◌≤◌, ◌-◌}
use Rattle.icu_invlist.specs.Inside.MergeSteps.{MergeSteps}
use Rattle.icu_invlist.proofs.merge.pass_first.Given as goal

abbrev pub invariant-loop-first : goal.invariant-loop-first
invariant-loop-first g l = record {
  walks : MergeSteps g.O.SetOperation.gives (g.A.Boundaries.list l.fn.a) (g.B.Boundaries.list l.fn.b) g.base l.out l.first l.walk.second l.written;
  forward : l.walk.first ≤ l.first;
}

abbrev pub decreases-loop-first : goal.decreases-loop-first
decreases-loop-first g l = l.count - l.first
