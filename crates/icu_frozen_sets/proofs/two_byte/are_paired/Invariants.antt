use Rattle.std.proofs.Common.{◌≡◌, ◌+◌, true}
use Rattle.icu_frozen_sets.specs.Inside.TwoByte.{OfEach, is_paired}
use Rattle.icu_frozen_sets.proofs.two_byte.are_paired.Given as goal

abbrev pub invariant-loop-k : goal.invariant-loop-k
invariant-loop-k l = l.paired ≡ true → OfEach is_paired l.window 1 (l.k + 1)
