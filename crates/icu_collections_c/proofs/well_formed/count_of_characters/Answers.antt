use Rattle.std.proofs.Common.{arith}
use Rattle.std.proofs.lemmas.List.{drop_all}
use Rattle.icu_collections_c.proofs.Utf8LeadLemmas.{leads_are_characters}
use Rattle.icu_collections_c.proofs.well_formed.count_of_characters.Goals as goal

pub returns-clause-count : goal.returns-clause-count
returns-clause-count c =
    let bytes = c.args.bytes.now in
    omega (arith, rw (drop_all c.loop-i.i bytes (omega arith)) at c.loop-i.invariant.0, leads_are_characters bytes c.requires)
