use Rattle.std.proofs.Common.{◌-◌, length}
use Rattle.icu_frozen_sets.specs.FrozenWords.{is_held}
use Rattle.icu_frozen_sets.proofs.LossySpanLemmas.{IsReached}
use Rattle.icu_frozen_sets.proofs.lossy_spans.lossy_span.Given as goal

abbrev pub invariant-loop-passed : goal.invariant-loop-passed
invariant-loop-passed l = record {
  reached : IsReached l.bytes (is_held l.table) l.held l.passed;
}

abbrev pub decreases-loop-passed : goal.decreases-loop-passed
decreases-loop-passed l = length l.bytes - l.passed
