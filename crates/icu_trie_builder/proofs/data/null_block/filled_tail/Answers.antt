use Rattle.std.proofs.Common.{◌≡◌, ℕ, ◌+◌, ◌-◌, ◌<◌, get_or, length, arith, ap, ◌∙◌, inl, inr}
use Rattle.std.proofs.lemmas.Bool.{cases_eq}
use Rattle.icu_trie_builder.proofs.data.null_block.filled_tail.Goals as goal

pub loop-count-preserved : goal.loop-count-preserved
loop-count-preserved c =
    let cells = c.args.cells.now in
    let n : ℕ = c.loop-count.count in
    let room : n < length cells = omega (arith, c.loop-count-test.true, c.min-most.ensures) in
    record {
      most = omega (arith, c.loop-count-test.true);
      filled = λ i l. elim (cases_eq i 0) [
        | inl e ↦ let at : length cells - (n + 1) + i ≡ length cells - 1 - n = omega (arith, e, room) in
            ap (λ x. get_or cells x 0) at ∙ c.if-cells-count.true
        | inr ne ↦ let at : length cells - (n + 1) + i ≡ length cells - n + (i - 1) = omega (arith, ne, room) in
            ap (λ x. get_or cells x 0) at ∙ c.loop-count.invariant.filled (i - 1) (omega (arith, ne, l))
      ];
    }
