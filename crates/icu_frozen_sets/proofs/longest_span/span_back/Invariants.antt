use Rattle.std.proofs.Common.{◌≡◌, ◌≤◌, length, drop}
use Rattle.icu_frozen_sets.specs.LongestSpans.{AllHeld}
use Rattle.icu_frozen_sets.proofs.longest_span.span_back.Given as goal

abbrev pub invariant-loop-start : goal.invariant-loop-start
invariant-loop-start g l = record {
  same : l.kind ≡ l.initial.kind;
  within : l.start ≤ length l.bytes;
  alike : g.K.Kind.is_sound l.initial.kind
      → AllHeld (g.K.Kind.is_in l.initial.kind) (g.K.Kind.held l.initial.kind) (drop l.start l.bytes);
}

abbrev pub decreases-loop-start : goal.decreases-loop-start
decreases-loop-start g l = l.start
