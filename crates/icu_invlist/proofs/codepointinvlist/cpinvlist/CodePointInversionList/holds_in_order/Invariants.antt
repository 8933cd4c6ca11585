use Rattle.std.proofs.Common.{suc, ◌-◌, ◌<◌, ◌≤◌, get_or, length}
use Rattle.icu_invlist.specs.Inside.Places.{ends_below}
use Rattle.icu_invlist.proofs.PlaceLemmas.{HoldsBefore}
use Rattle.icu_invlist.proofs.codepointinvlist.cpinvlist.CodePointInversionList.holds_in_order.Given as goal

abbrev pub invariant-loop-i : goal.invariant-loop-i
invariant-loop-i l = record {
  before : HoldsBefore l.other l.self l.i;
  from : l.i < length l.other → l.place ≤ ends_below l.self (suc (get_or l.other l.i 0));
}

abbrev pub decreases-loop-i : goal.decreases-loop-i
decreases-loop-i l = l.count - l.i
