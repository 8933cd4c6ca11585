use Rattle.std.proofs.Common.{◌∙◌, ℕ, ◌/◌, ◌%◌, ap, arith}
use Rattle.std.specs.Int.{bit_at}
use Rattle.std.specs.Prelude.{nat_eq}
use Rattle.icu_frozen_sets.proofs.BlockLemmas.{replaced_after, replaced_before, replaced_in, replaced_long}
use Rattle.icu_frozen_sets.proofs.bits.write_block.Goals as goal

pub returns-clause-len : goal.returns-clause-len
returns-clause-len c = replaced_long c.args.words.now c.write_bits.new.out c.args.at _ c.requires.there c.write_bits.ensures.len (omega arith)

pub returns-clause-set : goal.returns-clause-set
returns-clause-set c = λ d. ap (λ (w : ℕ). nat_eq (bit_at w (d % 64)) 1)
    (replaced_in c.args.words.now c.write_bits.new.out c.args.at _ c.requires.there c.write_bits.ensures.len (omega arith) (d / 64 % 16) (omega arith))
    ∙ c.write_bits.ensures.bits d

pub returns-clause-before : goal.returns-clause-before
returns-clause-before c = replaced_before c.args.words.now c.write_bits.new.out c.args.at _ c.requires.there c.write_bits.ensures.len (omega arith)

pub returns-clause-after : goal.returns-clause-after
returns-clause-after c = replaced_after c.args.words.now c.write_bits.new.out c.args.at _ c.requires.there c.write_bits.ensures.len (omega arith)
