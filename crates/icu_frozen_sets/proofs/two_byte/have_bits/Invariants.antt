use Rattle.std.proofs.Common.{◌+◌}
use Rattle.icu_frozen_sets.specs.Inside.TwoByte.{OfEach, has_bit}
use Rattle.icu_frozen_sets.proofs.two_byte.have_bits.Given as goal

abbrev pub invariant-loop-k : goal.invariant-loop-k
invariant-loop-k l = OfEach (has_bit l.words) l.window 1 (l.k + 1)
