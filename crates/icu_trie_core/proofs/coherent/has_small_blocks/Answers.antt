use Rattle.std.proofs.Common.{◌*◌, ◌∙◌, ap, sym, arith}
use Rattle.std.proofs.lemmas.Option.{same_Some}
use Rattle.icu_trie_core.specs.Contents.{contents_of}
use Rattle.icu_trie_core.specs.Format.{fast_limit, index2_cell}
use Rattle.icu_trie_core.specs.Inside.CoherentBlocks.{IsCell}
use Rattle.icu_trie_core.proofs.CoherentLemmas.{blocks_next, same_option}
use Rattle.icu_trie_core.proofs.coherent.has_small_blocks.Goals.{else-ne-via-then-ne+else-not-is_cell, else-ne-via-else-ne}
use Rattle.icu_trie_core.proofs.coherent.has_small_blocks.Goals as goal

pub loop-block-preserved : goal.loop-block-preserved
loop-block-preserved g c =
    let header = c.args.header.now in
    let index = (g.C.Cells.contents c.args.cells.now).index in
    let values = (g.C.Cells.contents c.args.cells.now).values in
    let stands = rw c.loop-block.invariant.kept at c.in-Some.ensures.cell in
    let holds : IsCell g.T.TrieValue.of_number header (contents_of index values) c.in-Some.cell
    = elim c.else-ne.branch [
      | else-ne-via-then-ne+else-not-is_cell w ↦
          let tested = rw (c.in-Some.ensures.kept, c.loop-block.invariant.kept) at w.is_cell.ensures.blocks in
          tested.0 w.if-not-is_cell.false
      | else-ne-via-else-ne w ↦ c.loop-block.invariant.known c.in-Some.cell
          (same_option c.loop-block.known c.in-Some.cell (sym c.ne.ensures ∙ w.if-ne.false))
    ] in
    record {
      kept = elim c.else-ne.branch [ else-ne-via-then-ne+else-not-is_cell w ↦ cc | else-ne-via-else-ne w ↦ cc ];
      reads = elim c.else-ne.branch [
        | else-ne-via-then-ne+else-not-is_cell w ↦ let tested = w.is_cell.ensures.reads in let e = ap (g.C.Cells.reads) w.cells-is in
            omega (arith, tested, e)
        | else-ne-via-else-ne w ↦ let e = ap (g.C.Cells.reads) w.cells-is in omega (arith, e)
      ];
      known = λ o e. rw (sym (same_Some c.in-Some.cell o e)) holds;
      blocks = blocks_next (fast_limit header.trie_type) c.loop-block.block c.in-Some.cell
          (λ b. index2_cell header.trie_type index (b * 512))
          (IsCell g.T.TrieValue.of_number header (contents_of index values)) c.loop-block.invariant.blocks (sym stands) holds;
    }
