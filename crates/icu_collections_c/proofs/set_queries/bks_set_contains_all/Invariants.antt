use Rattle.std.proofs.Common.{◌≡◌, ◌-◌, ◌%◌, ◌≤◌, length}
use Rattle.icu_invlist.specs.InversionList.{IsValid}
use Rattle.icu_collections_c.proofs.SetPlaceLemmas.{Checked}
use Rattle.icu_collections_c.proofs.set_queries.bks_set_contains_all.Given as goal

abbrev pub invariant-loop-i : goal.invariant-loop-i
invariant-loop-i l = record {
  is_even : l.i % 2 ≡ 0;
  within : l.i ≤ length l.b;
  place : l.place ≤ length l.a;
  checked : IsValid l.a × IsValid l.b → Checked l.a l.b l.i l.place;
}

abbrev pub decreases-loop-i : goal.decreases-loop-i
decreases-loop-i l = length l.b - l.i
