use Rattle.std.proofs.Common.{◌-◌, length}
use mathlib.Core.Bool.{beq}
use Rattle.icu_invlist.specs.InversionList.{holds}
use Rattle.icu_invlist.proofs.CallerLemmas.{Passed}
use Rattle.icu_frozen_sets.proofs.frozen.FrozenCodePointSet.past_ascii.Given as goal

abbrev pub invariant-loop-end : goal.invariant-loop-end
invariant-loop-end l = Passed (λ c. beq (holds l.self c) l.held) l.text l.start l.end

abbrev pub decreases-loop-end : goal.decreases-loop-end
decreases-loop-end l = length l.text - l.end
