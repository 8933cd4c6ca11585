use Rattle.std.proofs.Common.{arith}
use Rattle.icu_frozen_sets.proofs.RunLemmas.{run_ones, run_stops}
use Rattle.icu_frozen_sets.proofs.ranges.ones_from.Goals as goal

pub returns-clause-ones : goal.returns-clause-ones
returns-clause-ones c = λ i h. run_ones c.args.word c.args.place c.ranges.word.fits i (omega (arith, c.trailing_ones.ensures))

pub returns-clause-stops : goal.returns-clause-stops
returns-clause-stops c = λ h. rw c.trailing_ones.ensures
    (run_stops c.args.word c.args.place c.ranges.word.fits (omega (arith, h, c.trailing_ones.ensures)))
