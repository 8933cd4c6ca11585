use Rattle.std.proofs.Common.{◌≤◌, ◌-◌, length}
use Rattle.icu_frozen_sets.specs.Inside.TwoByte.{OfEach, has_bit, is_paired}
use Rattle.icu_frozen_sets.proofs.two_byte.skip_two_byte.Given as goal

abbrev pub invariant-loop-end : goal.invariant-loop-end
invariant-loop-end l = record {
  order : l.start ≤ l.end;
  within : l.end ≤ length l.bytes;
  paired : OfEach is_paired l.bytes l.start l.end;
  bits : OfEach (has_bit l.words) l.bytes l.start l.end;
}

abbrev pub decreases-loop-end : goal.decreases-loop-end
decreases-loop-end l = length l.bytes - l.end
