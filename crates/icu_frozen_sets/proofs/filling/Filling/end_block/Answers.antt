use Rattle.icu_frozen_sets.proofs.FillingLemmas.{moved_same}
use Rattle.icu_frozen_sets.proofs.ParityLemmas.{none_odd}
use Rattle.icu_frozen_sets.proofs.filling.Filling.end_block.Goals as goal

pub returns-clause-none : goal.returns-clause-none
returns-clause-none c = none_odd

pub returns-clause-same : goal.returns-clause-same
returns-clause-same c =
    let s = c.args.self.now in
    moved_same s.bits c.set_block.new.self s.block _ s.at c.args.at c.requires.filling c.requires.order
    c.in_ok-set_block.ensures.sets none_odd
