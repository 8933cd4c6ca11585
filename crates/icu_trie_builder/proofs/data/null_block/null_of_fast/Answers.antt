use Rattle.std.proofs.Common.{rules, ◌≡◌, ℕ, length, get_or, arith, refl, ◌∙◌}
use Rattle.std.proofs.lemmas.List.{take_all}
use Rattle.icu_trie_builder.specs.Inside.FilledBlocks.{IsFilled}
use Rattle.icu_trie_builder.proofs.NullLemmas.{moved}
use Rattle.icu_trie_builder.proofs.data.null_block.null_of_fast.Goals as goal

pub returns-in-Some-clause-moved : goal.returns-in-Some-clause-moved
returns-in-Some-clause-moved c =
    let cells = c.args.cells.now in
    let small = c.args.small.now in
    let to : ℕ = get_or c.args.fast.now c.args.number 0 in
    let from : ℕ = get_or small c.in-Some.same 0 in
    let value : ℕ = get_or cells to 0 in
    let f = c.in-Some.ensures.found in
    let is : get_or cells from 0 ≡ value = c.in-Some.ensures.wanted value refl in
    let filled : IsFilled value 16 from cells = λ i l. f.1 i l ∙ is in
    let wide : IsFilled value 16 to cells = λ i l. c.requires.filled i (omega (arith, l)) in
    moved cells cells small c.rename.new.offsets from to value (take_all (length cells) cells (omega arith)) (search rules) c.requires.small
    c.rename.ensures.renamed c.rename.ensures.others filled (c.requires.small c.in-Some.same f.0) wide
    (omega (arith, c.requires.fast c.args.number c.requires.number))
