use Rattle.std.proofs.Common.{◌≡◌, arith}
use Rattle.std.proofs.lemmas.Bool.Decides.{nat_tests}
use Rattle.icu_trie_core.proofs.CoherentLemmas.{null_cell_is}
use Rattle.icu_trie_core.proofs.coherent.is_cell.Goals as goal

pub returns-then-named_null-clause-blocks : goal.returns-then-named_null-clause-blocks
returns-then-named_null-clause-blocks g c =
    let is : c.args.cell ≡ c.args.header.now.index3_null_offset = grind (arith, nat_tests) in (
      λ yes. null_cell_is g.T.TrieValue.of_number c.args.header.now (g.C.Cells.contents c.args.cells.now).index
          (g.C.Cells.contents c.args.cells.now).values c.args.cell is (c.requires.null_cell.0 yes),
      λ cell. c.requires.null_cell.1 (rw is at (cell.1 is)),
    )
