use Rattle.icu_frozen_sets.proofs.FillingLemmas.{none_filled}
use Rattle.icu_frozen_sets.proofs.ParityLemmas.{none_odd}
use Rattle.icu_frozen_sets.proofs.filling.Filling.new.Goals as goal

pub returns-clause-below : goal.returns-clause-below
returns-clause-below c = none_filled c.in_ok-new.field-0 _ c.in_ok-new.ensures.filling none_odd
