use Rattle.std.proofs.Common.{◌≡◌, ◌≤◌, ◌+◌, length, false}
use Rattle.std.specs.Prelude.{◌↔◌}
use Rattle.icu_invlist.proofs.AscendLemmas.{UpTo}
use Rattle.icu_invlist.proofs.codepointinvlist.utils.ascend.Given as goal

abbrev pub invariant-loop-i : goal.invariant-loop-i
invariant-loop-i l = record {
  compared : (l.falls ≡ false) ↔ UpTo l.ends l.i;
  within : l.i ≤ length l.ends + 1;
}
