use Rattle.std.proofs.Common.{◌≡◌, ◌≤◌}
use Rattle.icu_invlist.proofs.CheckedLists.{Checked}
use Rattle.icu_invlist.proofs.SizeLemmas.{counted}
use Rattle.icu_invlist.proofs.codepointinvlist.sizes.valid_size.Given as goal

abbrev pub invariant-loop-end : goal.invariant-loop-end
invariant-loop-end l = record {
  checked : Checked l.ends l.yielded l.end-iterator l.next;
  counted : l.size ≡ counted 0 l.yielded;
  fits : l.size ≤ l.next;
}
