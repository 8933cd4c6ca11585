use Rattle.std.proofs.Common.{◌-◌, length}
use mathlib.Core.Bool.{beq}
use Rattle.icu_invlist.specs.InversionList.{holds}
use Rattle.icu_invlist.proofs.CallerLemmas.{Passed}
use Rattle.icu_frozen_sets.proofs.frozen.FrozenCodePointSet.span.Given as goal

abbrev pub invariant-loop-bytes : goal.invariant-loop-bytes
invariant-loop-bytes l = Passed (λ c. beq (holds l.self c) l.held) l.text 0 l.passed

abbrev pub decreases-loop-bytes : goal.decreases-loop-bytes
decreases-loop-bytes l = length l.text - l.passed
