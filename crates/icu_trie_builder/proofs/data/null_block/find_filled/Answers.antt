use Rattle.std.proofs.Common.{ℕ, ◌-◌, get_or, arith, sym, ◌∙◌, subst, inl, inr, true≢false}
use Rattle.std.proofs.lemmas.Bool.{cases_eq}
use Rattle.icu_trie_builder.specs.Inside.FilledBlocks.{IsFilled}
use Rattle.icu_trie_builder.proofs.data.null_block.find_filled.Goals as goal
use Rattle.icu_trie_builder.proofs.data.null_block.find_filled.Goals.{else-is_wanted-via-then-is_wanted+else-is_filled, else-is_wanted-via-else-is_wanted}

pub loop-number-preserved : goal.loop-number-preserved
loop-number-preserved c = λ none j v from lt filled.
    let n : ℕ = c.loop-number.number - 1 in
    let offsets = c.args.offsets.now in
    elim (cases_eq j n) [
      | inr ne ↦ c.loop-number.invariant none j v (omega (arith, from, ne, c.loop-number-test.true)) lt filled
      | inl e ↦
          let f : IsFilled v c.args.size (get_or offsets n 0) c.args.cells.now =
          subst (λ i. IsFilled v c.args.size (get_or offsets i 0) c.args.cells.now) e filled in
          elim c.else-is_wanted.branch [
            | else-is_wanted-via-then-is_wanted+else-is_filled w ↦ w.is_filled.ensures.no w.if-is_filled.false v f
            | else-is_wanted-via-else-is_wanted w ↦ absurd (true≢false (sym (c.is_wanted.ensures.any none) ∙ w.if-is_wanted.false))
          ]
    ]
