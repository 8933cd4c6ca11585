use Rattle.std.proofs.Common.{◌≡◌, ◌∙◌, sym, ap, ℕ, ◌+◌, ◌-◌, ◌*◌, ◌/◌, ◌%◌, ◌^◌, ◌<◌, arith, inl, inr, get_or, rules}
use Rattle.std.specs.Prelude.{◌==◌}
use Rattle.std.specs.Int.{bit_at}
use Rattle.std.proofs.lemmas.Bool.{cases_lt}
use Rattle.icu_frozen_sets.proofs.AsciiBlockLemmas.{inverted_bit}
use Rattle.icu_frozen_sets.proofs.ascii_blocks.others_of.Goals as goal

pub loop-k-preserved : goal.loop-k-preserved
loop-k-preserved c =
    let l = c.loop-k in
    let written = c.write_bits.ensures in
    record {
      all = c.write_bits.array_long;
      says = λ d m z. elim (cases_lt d (8 * l.k)) [
        | inl less ↦ l.invariant.says d less (sym (written.before d less) ∙ z)
        | inr past ↦
            let j : ℕ = d - 8 * l.k in
            let at : 8 * l.k + j ≡ d = omega (arith, past) in
            let word : d / 64 ≡ l.k / 8 = omega (arith, past, m) in
            let place : 8 * (l.k % 8) + j ≡ d % 64 = omega (arith, past, m) in
            let fits : get_or c.args.words.now (l.k / 8) 0 < 2 ^ 64 = search rules in
            let none = written.bits j (omega (arith, past, m)) (ap (λ (i : ℕ). get_or c.write_bits.new.others i 0) at ∙ z) in
            ap (λ (i : ℕ). bit_at (get_or c.args.words.now i 0) (d % 64) == 1) word
            ∙ inverted_bit (get_or c.args.words.now (l.k / 8) 0) (8 * (l.k % 8)) j (d % 64) fits (omega (arith, past, m)) place
            (omega arith) none
      ];
    }
