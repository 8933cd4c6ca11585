use Rattle.std.proofs.Common.{◌≡◌, ◌-◌, ◌≤◌, length, take}
use Rattle.icu_frozen_sets.specs.LongestSpans.{AllHeld}
use Rattle.icu_frozen_sets.proofs.longest_span.span_from.Given as goal

abbrev pub invariant-loop-passed : goal.invariant-loop-passed
invariant-loop-passed g l = record {
  same : l.kind ≡ l.initial.kind;
  within : l.passed ≤ length l.bytes;
  alike : g.K.Kind.is_sound l.initial.kind
      → AllHeld (g.K.Kind.is_in l.initial.kind) (g.K.Kind.held l.initial.kind) (take l.start l.bytes)
      → AllHeld (g.K.Kind.is_in l.initial.kind) (g.K.Kind.held l.initial.kind) (take l.passed l.bytes);
}

abbrev pub decreases-loop-passed : goal.decreases-loop-passed
decreases-loop-passed g l = length l.bytes - l.passed
