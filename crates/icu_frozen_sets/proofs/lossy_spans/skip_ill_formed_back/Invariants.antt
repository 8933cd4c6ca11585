use Rattle.std.proofs.Common.{◌≤◌}
use Rattle.icu_frozen_sets.proofs.LossySpanLemmas.{NoneTo}
use Rattle.icu_frozen_sets.proofs.lossy_spans.skip_ill_formed_back.Given as goal

abbrev pub invariant-loop-start : goal.invariant-loop-start
invariant-loop-start l = record {
  order : l.start ≤ l.end;
  none : NoneTo l.bytes l.start l.end;
}

abbrev pub decreases-loop-start : goal.decreases-loop-start
decreases-loop-start l = l.start
