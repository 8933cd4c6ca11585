use Rattle.icu_collections_c.specs.UnitTries.{units_of}
use Rattle.icu_collections_c.proofs.UnitLemmas.{root_stands}
use Rattle.icu_collections_c.proofs.unit_tries.bks_units_value.Goals as goal

pub returns-clause-root : goal.returns-clause-root
returns-clause-root c = λ m h. root_stands (units_of c.args.units.now) m h
