use mathlib.Core.Bool.{beq}
use Rattle.icu_invlist.specs.InversionList.{holds}
use Rattle.icu_invlist.proofs.CallerLemmas.{SpannedBack}
use Rattle.icu_frozen_sets.proofs.frozen.FrozenCodePointSet.span_back.Given as goal

abbrev pub invariant-loop-c : goal.invariant-loop-c
invariant-loop-c l = SpannedBack (λ c. beq (holds l.self c) l.held) l.text l.c-iterator.iter.rest.now l.start
