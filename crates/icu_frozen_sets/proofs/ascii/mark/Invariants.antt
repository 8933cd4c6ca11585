use Rattle.std.proofs.Common.{◌≡◌, ℕ, ◌<◌, false, slice_index_or}
use Rattle.std.specs.Prelude.{◌||◌}
use Rattle.icu_invlist.specs.InversionList.{between}
use Rattle.icu_frozen_sets.proofs.ascii.mark.Given as goal

abbrev pub invariant-loop-c : goal.invariant-loop-c
invariant-loop-c l = (k : ℕ) → k < 128
    → slice_index_or l.ascii k false ≡ (slice_index_or l.initial.ascii k false || between l.from l.c k)
