use Rattle.std.proofs.Common.{◌≡◌, ◌∙◌, sym, ap, ℕ, ◌+◌, ◌*◌, ◌%◌, ◌^◌, ◌<◌, arith, inl, inr, length}
use Rattle.std.specs.Prelude.{bit_and}
use Rattle.std.specs.Int.{bit_at}
use Rattle.std.proofs.lemmas.Bool.{cases_eq}
use Rattle.std.proofs.lemmas.Grind.{get_or-set_at}
use Rattle.std.proofs.lemmas.List.{get_or-set_other, length-set}
use Rattle.icu_frozen_sets.proofs.AsciiBlockLemmas.{single_bit}
use Rattle.icu_frozen_sets.proofs.ascii_blocks.write_bits.Goals as goal

pub loop-j-preserved : goal.loop-j-preserved
loop-j-preserved c =
    let l = c.loop-j in
    let place : ℕ = c.args.start + l.j in
    let value : ℕ = bit_and c.args.bits (1 * 2 ^ l.j % 256) in
    let there : place < length l.others = omega (arith, l.invariant.all, c.requires, c.loop-j-test.true) in
    record {
      all = length-set l.others place value ∙ l.invariant.all;
      bits = λ i m z. elim (cases_eq i l.j) [
        | inl q ↦
            let at : c.args.start + i ≡ place = omega (arith, q) in
            let none : value ≡ 0 = sym (get_or-set_at l.others place (c.args.start + i) value 0 at there) ∙ z in
            ap (λ (k : ℕ). bit_at c.args.bits k) q ∙ single_bit c.args.bits l.j (omega (arith, c.loop-j-test.true)) none
        | inr q ↦ l.invariant.bits i (omega (arith, m, q))
            (sym (get_or-set_other l.others place (c.args.start + i) value 0 (λ e. q (omega (arith, e)))) ∙ z)
      ];
      before = λ i m. get_or-set_other l.others place i value 0 (λ e. omega (arith, e, m)) ∙ l.invariant.before i m;
    }
