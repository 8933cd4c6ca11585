use Rattle.std.proofs.Common.{◌*◌}
use Rattle.icu_invlist.specs.InversionList.{IsValid}
use Rattle.icu_collections_c.specs.Inside.SetPlaces.{Gap}
use Rattle.icu_collections_c.proofs.set_queries.members_before.Given as goal

abbrev pub invariant-loop-i : goal.invariant-loop-i
invariant-loop-i l = record { gap : IsValid l.ends → Gap l.ends (2 * l.i) l.before }
