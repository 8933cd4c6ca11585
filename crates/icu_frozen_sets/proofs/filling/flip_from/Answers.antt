use Rattle.std.proofs.Common.{◌/◌, ◌%◌, ℕ, ap, arith, get_or, bit_xor}
use Rattle.std.proofs.lemmas.Nat.Bits.{ones_shl}
use Rattle.icu_frozen_sets.proofs.ParityLemmas.{odd_before, odd_from}
use Rattle.icu_frozen_sets.proofs.filling.flip_from.Goals as goal

pub returns-clause-before : goal.returns-clause-before
returns-clause-before c = odd_before c.args.block.now c.args.c _ (omega arith)
    (ap (λ (n : ℕ). bit_xor (get_or c.args.block.now (c.args.c / 64 % 16) 0) n) (ones_shl 64 (c.args.c % 64) (omega arith)))

pub returns-clause-from : goal.returns-clause-from
returns-clause-from c = odd_from c.args.block.now c.args.c _ (omega arith)
    (ap (λ (n : ℕ). bit_xor (get_or c.args.block.now (c.args.c / 64 % 16) 0) n) (ones_shl 64 (c.args.c % 64) (omega arith)))
