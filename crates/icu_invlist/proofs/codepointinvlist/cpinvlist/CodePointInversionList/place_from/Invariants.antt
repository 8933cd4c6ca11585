use Rattle.std.proofs.Common.{suc, ◌-◌, ◌≤◌}
use Rattle.icu_invlist.specs.Inside.Places.{ends_below}
use Rattle.icu_invlist.proofs.codepointinvlist.cpinvlist.CodePointInversionList.place_from.Given as goal

abbrev pub invariant-loop-place : goal.invariant-loop-place
invariant-loop-place l = l.place ≤ ends_below l.self (suc l.c)

abbrev pub decreases-loop-place : goal.decreases-loop-place
decreases-loop-place l = l.near - l.place
