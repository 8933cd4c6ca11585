use Rattle.std.proofs.Common.{◌+◌, ◌-◌, arith, refl}
use Rattle.icu_frozen_sets.specs.Inside.TwoByte.{has_bit, is_paired}
use Rattle.icu_frozen_sets.proofs.TwoByteLemmas.{of_window}
use Rattle.icu_frozen_sets.proofs.two_byte.are_next_short.Goals as goal

pub returns-then-are_paired-clause-paired : goal.returns-then-are_paired-clause-paired
returns-then-are_paired-clause-paired c = λ e.
    of_window is_paired c.args.bytes.now c.args.end (c.args.end + 8 - (c.args.end - 1))
    c.requires.some (omega arith) (c.if-are_paired.ensures refl)

pub returns-then-are_paired-clause-bits : goal.returns-then-are_paired-clause-bits
returns-then-are_paired-clause-bits c = λ e.
    of_window (has_bit c.args.words.now) c.args.bytes.now c.args.end (c.args.end + 8 - (c.args.end - 1))
    c.requires.some (omega arith) (c.have_bits.ensures e)
