use Rattle.std.proofs.Common.{rules, ◌≡◌, ℕ, length, get_or, arith, refl, ◌∙◌, sym, ap}
use Rattle.std.proofs.lemmas.List.{get_or_read}
use Rattle.icu_trie_builder.specs.Inside.FilledBlocks.{IsFilled}
use Rattle.icu_trie_builder.proofs.NullLemmas.{moved, null-small}
use Rattle.icu_trie_builder.proofs.data.null_block.null_of_small.Goals as goal

pub returns-clause-moved : goal.returns-clause-moved
returns-clause-moved c =
    let old = c.args.stored.now.items in
    let small = c.args.small.now in
    let from : ℕ = get_or small c.args.number 0 in
    let value : ℕ = c.index-value.result.now in
    let inside = c.requires.small c.args.number c.requires.number in
    let is : value ≡ get_or old from 0 = get_or_read old from value (omega (arith, inside)) c.index-value.ensures 0 in
    let filled : IsFilled value 16 from old = λ i l. c.requires.filled i l ∙ sym is in
    let e = c.in_ok-at.ensures in
    moved old c.settle.new.stored.items small c.rename.new.offsets from c.in_ok-at.at value e.kept (search rules) c.requires.small
    c.rename.ensures.renamed c.rename.ensures.others filled inside e.filled e.inside

pub returns-clause-drawn : goal.returns-clause-drawn
returns-clause-drawn c = λ p pass.
    let old = c.args.stored.now.items in
    let from : ℕ = get_or c.args.small.now c.args.number 0 in
    let value : ℕ = c.index-value.result.now in
    let inside = c.requires.small c.args.number c.requires.number in
    let is : value ≡ get_or old from 0 = get_or_read old from value (omega (arith, inside)) c.index-value.ensures 0 in
    c.in_ok-at.ensures.drawn p pass (ap p is ∙ pass from 0 (omega (arith, inside)))

pub returns-clause-null : goal.returns-clause-null
returns-clause-null c =
    let e = c.in_ok-at.ensures in
    let len : length c.rename.new.offsets ≡ length c.args.small.now = search rules in
    null-small c.args.fast.now c.rename.new.offsets c.settle.new.stored.items c.in_ok-at.at _ c.args.number e.apart e.filled
    (omega (arith, len, c.requires.number)) (c.rename.ensures.renamed c.args.number c.requires.number refl)
