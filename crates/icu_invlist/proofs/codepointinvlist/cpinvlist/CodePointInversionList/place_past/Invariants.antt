use Rattle.std.proofs.Common.{suc, ◌-◌, ◌*◌, ◌+◌, ◌<◌, ◌≤◌, length}
use Rattle.icu_invlist.specs.Inside.Places.{ends_below}
use Rattle.icu_invlist.proofs.codepointinvlist.cpinvlist.CodePointInversionList.place_past.Given as goal

abbrev pub invariant-loop-low : goal.invariant-loop-low
invariant-loop-low l = record {
  first : 0 < l.low;
  from : l.low ≤ ends_below l.self (suc l.c);
  most : ends_below l.self (suc l.c) ≤ length l.self;
  some : 0 < l.size;
  small : l.size ≤ 2 * length l.self + 4;
  bounded : length l.self ≤ 0x110001;
}

abbrev pub decreases-loop-low : goal.decreases-loop-low
decreases-loop-low l = length l.self - l.low
