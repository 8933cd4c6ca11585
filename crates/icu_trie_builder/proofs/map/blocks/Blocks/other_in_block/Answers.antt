use Rattle.std.proofs.Common.{◌≡◌, arith, sym, ap, inl, inr, get_or, ◌+◌, ◌*◌, ◌%◌, ◌∙◌}
use Rattle.std.proofs.lemmas.Bool.{cases_lt}
use Rattle.icu_trie_builder.proofs.MapLemmas.{number-in, number-in-one}
use Rattle.icu_trie_builder.proofs.map.blocks.Blocks.other_in_block.Goals as goal

pub returns-then-held-number : goal.returns-then-held-number
returns-then-held-number c = record {
  from = omega arith;
  within = omega arith;
  other = λ l. absurd (omega (arith, l));
  same = λ k low high. number-in-one c.args.self.now.numbers c.args.block k c.in-One.held c.in-One.ensures (omega (arith, low, high))
      ∙ c.if-held-number.true;
}

pub returns-else-held-number : goal.returns-else-held-number
returns-else-held-number c = record {
  from = omega arith;
  within = omega arith;
  same = λ k low high. absurd (omega (arith, low, high));
  other = λ _ e. c.if-held-number.false
      (sym (number-in-one c.args.self.now.numbers c.args.block _ c.in-One.held c.in-One.ensures (omega arith)) ∙ e);
}

pub loop-i-preserved : goal.loop-i-preserved
loop-i-preserved c = λ k low high. elim (cases_lt k (16 * c.args.block + c.loop-i.i)) [
  | inl l ↦ c.loop-i.invariant k low l
  | inr m ↦ let at : k % 16 ≡ c.loop-i.i = omega (arith, high, m) in
      number-in c.args.self.now.numbers c.in-Cells.cells.now c.args.block k c.in-Cells.ensures (omega (arith, high, m))
      ∙ ap (λ x. get_or c.in-Cells.cells.now x 0) at ∙ c.if-cells-i.false
]

pub returns-then-cells-i : goal.returns-then-cells-i
returns-then-cells-i c = let found = 16 * c.args.block + c.loop-i.i in
    let at : found % 16 ≡ c.loop-i.i = omega arith in
    record {
      from = omega arith;
      within = omega arith;
      same = c.loop-i.invariant;
      other = λ _ e. c.if-cells-i.true (ap (λ x. get_or c.in-Cells.cells.now x 0) (sym at)
          ∙ sym (number-in c.args.self.now.numbers c.in-Cells.cells.now c.args.block found c.in-Cells.ensures (omega arith)) ∙ e);
    }
