use Rattle.std.proofs.Common.{◌≡◌, ◌-◌, ◌≤◌}
use mathlib.Core.Bool.{beq}
use Rattle.icu_frozen_sets.proofs.LongestSpanLemmas.{ArePassed, PassesAscii}
use Rattle.icu_frozen_sets.proofs.longest_span.skip_ascii.Given as goal

abbrev pub invariant-loop-end : goal.invariant-loop-end
invariant-loop-end g l = record {
  same : l.kind ≡ l.initial.kind;
  bound : l.end ≤ l.limit;
  so_far : PassesAscii l.bytes l.start l.end;
  passed : g.K.Kind.is_sound l.initial.kind
      → ArePassed (λ c. beq (g.K.Kind.is_in l.initial.kind c) (g.K.Kind.held l.initial.kind)) l.bytes l.start l.end;
}

abbrev pub decreases-loop-end : goal.decreases-loop-end
decreases-loop-end g l = l.limit - l.end
