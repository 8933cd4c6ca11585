use Rattle.std.proofs.Common.{suc, ◌+◌, ◌<◌, ◌≤◌, length}
use Rattle.icu_invlist.specs.Inside.Places.{ends_below}
use Rattle.icu_invlist.proofs.codepointinvlist.cpinvlist.CodePointInversionList.place_between.Given as goal

abbrev pub invariant-loop-size : goal.invariant-loop-size
invariant-loop-size l = record {
  first : 0 < l.low;
  from : l.low ≤ ends_below l.self (suc l.c);
  to : ends_below l.self (suc l.c) ≤ l.low + l.size;
  within : l.low + l.size ≤ length l.self;
}

abbrev pub decreases-loop-size : goal.decreases-loop-size
decreases-loop-size l = l.size
