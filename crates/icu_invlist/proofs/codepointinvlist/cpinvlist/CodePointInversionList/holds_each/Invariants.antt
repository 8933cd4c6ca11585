use Rattle.std.proofs.Common.{◌-◌}
use Rattle.icu_invlist.proofs.PlaceLemmas.{HoldsBefore}
use Rattle.icu_invlist.proofs.codepointinvlist.cpinvlist.CodePointInversionList.holds_each.Given as goal

abbrev pub invariant-loop-i : goal.invariant-loop-i
invariant-loop-i l = HoldsBefore l.other l.self l.i

abbrev pub decreases-loop-i : goal.decreases-loop-i
decreases-loop-i l = l.count - l.i
