use Rattle.std.proofs.Common.{◌<◌, ◌+◌, ◌%◌, arith}
use Rattle.icu_frozen_sets.proofs.RunLemmas.{ones_of_full, ones_of_word, stops_at_word}
use Rattle.icu_frozen_sets.proofs.ranges.past_ones.Goals as goal

pub returns-then-ones_from-past-clause-none : goal.returns-then-ones_from-past-clause-none
returns-then-ones_from-past-clause-none c =
    let within : c.args.c % 64 + c.ones_from.result < 64 = omega (arith, c.if-ones_from-past.true, c.min-past.ensures) in (
      c.args.c + c.ones_from.result,
      omega arith,
      omega (arith, c.if-ones_from-past.true, c.min-past.ensures),
      stops_at_word c.args.table.now c.args.c c.word-bits.result c.ones_from.result
          (rw (c.place_by-place.ensures) at c.word-bits.ensures) c.ones_from.result within (c.ones_from.ensures.stops within),
    )

pub returns-then-is_full-clause-some : goal.returns-then-is_full-clause-some
returns-then-is_full-clause-some c = (
  omega arith,
  λ k l h.
      ones_of_full c.args.table.now c.args.c k
      (rw (c.place_by-place.ensures) at (c.is_full.ensures c.if-is_full.true)) (omega (arith, l, h)),
)

pub returns-clause-some : goal.returns-clause-some
returns-clause-some c = (
  omega (arith, c.min-past.ensures),
  λ k l h.
      ones_of_word c.args.table.now c.args.c c.word-bits.result c.ones_from.result
      (rw (c.place_by-place.ensures) at c.word-bits.ensures) c.ones_from.ensures.ones k l
      (omega (arith, c.if-ones_from-past.false, h)),
)
