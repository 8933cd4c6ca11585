use Rattle.std.proofs.Common.{◌≡◌, ◌≤◌, ◌-◌}
use Rattle.icu_invlist.specs.InversionList.{is_odd}
use Rattle.icu_invlist.specs.Inside.MergeSteps.{MergeSteps}
use Rattle.icu_invlist.proofs.Merging.{TurnsAtBoth}
use Rattle.icu_invlist.proofs.merge.pass_both.Given as goal

abbrev pub invariant-loop-passed : goal.invariant-loop-passed
invariant-loop-passed g l = record {
  walks : MergeSteps g.O.SetOperation.gives (g.A.Boundaries.list l.fn.a) (g.B.Boundaries.list l.fn.b) g.base l.out l.passed.first l.passed.second l.passed.written;
  changes : l.changes ≡ TurnsAtBoth g.O.SetOperation.gives (is_odd l.passed.first) (is_odd l.passed.second);
  first : l.fn.walk.first ≤ l.passed.first;
  second : l.fn.walk.second ≤ l.passed.second;
}

abbrev pub decreases-loop-passed : goal.decreases-loop-passed
decreases-loop-passed g l = l.first_count - l.passed.first
