use Rattle.std.proofs.Common.{◌≡◌, ◌++◌, replicate, ap, arith, append_assoc, ◌∙◌}
use Rattle.std.proofs.lemmas.Grind.{common_steps}
use Rattle.icu_trie_core.specs.Blocks.{block}
use Rattle.icu_trie_builder.proofs.MapLemmas.{window-on}
use Rattle.icu_trie_builder.proofs.map.blocks.Blocks.copy.Goals as goal
use Rattle.icu_trie_builder.proofs.map.blocks.Blocks.copy.Goals.{in-One+in_ok-resize-in-One, in-Cells+in_ok-extend_from_slice-in-Cells}

pub loop-block-preserved : goal.loop-block-preserved
loop-block-preserved c = let xs = c.args.self.now.numbers in let at = c.loop-block.block in let had = c.loop-block.room.items in
    let more : c.match-block.room.items ≡ had ++ block 16 xs at = elim c.match-block.branch [
      | in-One+in_ok-resize-in-One w ↦
          let grown : w.resize.new.self.items ≡ had ++ replicate 16 w.in-One.number = grind (arith, common_steps) in
          ap (λ v. v.items) w.room-is ∙ grown ∙ ap (λ ys. had ++ ys) w.in-One.ensures
      | in-Cells+in_ok-extend_from_slice-in-Cells w ↦
          ap (λ v. v.items) w.room-is ∙ w.in_ok-extend_from_slice-in-Cells.ensures.items ∙ ap (λ ys. had ++ ys) w.in-Cells.ensures
    ] in
    more ∙ rw (c.loop-block.invariant, window-on xs c.args.first at (omega arith), append_assoc)
