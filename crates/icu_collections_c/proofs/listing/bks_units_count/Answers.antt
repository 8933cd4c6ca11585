use Rattle.std.proofs.Common.{inl, inr, refl, rules}
use Rattle.icu_collections_c.proofs.listing.bks_units_count.Goals as goal

pub returns-in-Ok-None : goal.returns-in-Ok-None
returns-in-Ok-None c = inr (inl (search rules, (rw c.in-Ok-None.field-0-is at c.in-Ok-None.ensures.none).0 refl))
