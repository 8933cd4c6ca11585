use Rattle.std.proofs.Common.{◌-◌, ◌≤◌, length, take}
use Rattle.icu_frozen_sets.specs.FrozenWords.{is_held}
use Rattle.icu_frozen_sets.specs.LongestSpans.{AllHeld}
use Rattle.icu_frozen_sets.proofs.longest_span.near_span_from.Given as goal

abbrev pub invariant-loop-passed : goal.invariant-loop-passed
invariant-loop-passed l = record {
  within : l.passed ≤ length l.bytes;
  alike : AllHeld (is_held l.table) l.held (take l.start l.bytes) → AllHeld (is_held l.table) l.held (take l.passed l.bytes);
}

abbrev pub decreases-loop-passed : goal.decreases-loop-passed
decreases-loop-passed l = length l.bytes - l.passed
