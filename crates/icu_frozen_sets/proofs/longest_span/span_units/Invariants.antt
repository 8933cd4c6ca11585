use Rattle.std.proofs.Common.{◌≡◌, length}
use mathlib.Core.Bool.{beq}
use Rattle.icu_utf.specs.Utf16.{code_points_of}
use Rattle.icu_frozen_sets.proofs.LongestSpanLemmas.{PassesUnits}
use Rattle.icu_frozen_sets.proofs.longest_span.span_units.Given as goal

abbrev pub invariant-loop-c : goal.invariant-loop-c
invariant-loop-c g l = record {
  same : l.kind ≡ l.initial.kind;
  so_far : PassesUnits (g.K.Kind.is_sound l.initial.kind)
      (λ c. beq (g.K.Kind.is_in l.initial.kind c) (g.K.Kind.held l.initial.kind)) l.units l.rest l.passed;
}

abbrev pub decreases-loop-c : goal.decreases-loop-c
decreases-loop-c g l = length (code_points_of l.rest)
