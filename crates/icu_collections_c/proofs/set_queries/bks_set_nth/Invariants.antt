use Rattle.std.proofs.Common.{◌≡◌, ◌-◌, ◌%◌, ◌≤◌, length}
use Rattle.icu_invlist.specs.InversionList.{IsValid}
use Rattle.icu_collections_c.specs.Inside.SetPlaces.{Gap}
use Rattle.icu_collections_c.proofs.set_queries.bks_set_nth.Given as goal

abbrev pub invariant-loop-i : goal.invariant-loop-i
invariant-loop-i l = record {
  is_even : l.i % 2 ≡ 0;
  same : l.c ≡ l.fn.c;
  within : l.i ≤ length l.ends;
  left : l.left ≤ l.n;
  gap : IsValid l.ends → Gap l.ends l.i (l.n - l.left);
}

abbrev pub decreases-loop-i : goal.decreases-loop-i
decreases-loop-i l = length l.ends - l.i
