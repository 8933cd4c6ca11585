use Rattle.std.proofs.Common.{◌≡◌, ℕ, ◌+◌, ◌-◌, ◌^◌, ◌<◌, get_or}
use Rattle.icu_frozen_sets.proofs.ranges.is_full.Given as goal

abbrev pub invariant-loop-k : goal.invariant-loop-k
invariant-loop-k l = (i : ℕ) → i < l.k → get_or l.table (l.place + i) 0 ≡ 2 ^ 64 - 1
