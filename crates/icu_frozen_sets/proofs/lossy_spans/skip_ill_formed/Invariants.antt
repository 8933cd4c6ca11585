use Rattle.std.proofs.Common.{◌≤◌, ◌-◌, length}
use Rattle.icu_frozen_sets.proofs.LossySpanLemmas.{NoneFrom}
use Rattle.icu_frozen_sets.proofs.lossy_spans.skip_ill_formed.Given as goal

abbrev pub invariant-loop-end : goal.invariant-loop-end
invariant-loop-end l = record {
  order : l.start ≤ l.end;
  within : l.end ≤ length l.bytes;
  none : NoneFrom l.bytes l.start l.end;
}

abbrev pub decreases-loop-end : goal.decreases-loop-end
decreases-loop-end l = length l.bytes - l.end
