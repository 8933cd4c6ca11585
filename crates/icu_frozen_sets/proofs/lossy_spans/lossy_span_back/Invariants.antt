use Rattle.icu_frozen_sets.specs.FrozenWords.{is_held}
use Rattle.icu_frozen_sets.proofs.LossySpanLemmas.{IsReachedBack}
use Rattle.icu_frozen_sets.proofs.lossy_spans.lossy_span_back.Given as goal

abbrev pub invariant-loop-start : goal.invariant-loop-start
invariant-loop-start l = record {
  reached : IsReachedBack l.bytes (is_held l.table) l.held l.start;
}

abbrev pub decreases-loop-start : goal.decreases-loop-start
decreases-loop-start l = l.start
