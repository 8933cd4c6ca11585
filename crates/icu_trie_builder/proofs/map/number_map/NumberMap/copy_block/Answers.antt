use Rattle.std.proofs.Common.{arith, ap, ◌*◌, ◌/◌, ◌++◌, ◌∙◌}
use Rattle.icu_trie_core.specs.Blocks.{window}
use Rattle.icu_trie_builder.proofs.MapLemmas.{sixteen}
use Rattle.icu_trie_builder.proofs.map.number_map.NumberMap.copy_block.Goals as goal

pub copy-requires : goal.copy-requires
copy-requires c = omega (arith, sixteen c.args.size c.args.number c.requires.multiple)

pub returns-in_ok-copy-in-InBlocks : goal.returns-in_ok-copy-in-InBlocks
returns-in_ok-copy-in-InBlocks c = let size = c.args.size in let xs = c.in-InBlocks.blocks.numbers in
    let count = size / 16 in let from = 16 * (count * c.args.number) in
    rw (← c.self.view_is, c.in-InBlocks.is)
    (c.in_ok-copy-in-InBlocks.ensures ∙ ap (λ ys. ys ++ window (16 * count) from xs) c.clear.ensures.items
    ∙ ap (λ k. window k from xs) (omega arith) ∙ ap (λ at. window size at xs) (sixteen size c.args.number c.requires.multiple))
