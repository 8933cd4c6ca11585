use Rattle.std.proofs.Common.{◌≡◌, ◌%◌, ◌≤◌, arith}
use Rattle.icu_trie_core.proofs.CoherentLemmas.{coherent_by_blocks}
use Rattle.icu_trie_core.proofs.coherent.is_coherent.Goals as goal

pub returns-clause-coherent : goal.returns-clause-coherent
returns-clause-coherent g c =
    let aligned : c.args.header.now.high_start % 512 ≡ 0 = omega arith in
    let within : c.args.header.now.high_start ≤ 0x110000 = omega arith in
    let both = coherent_by_blocks g.T.TrieValue.of_number c.args.header.now (g.C.Cells.contents c.args.cells.now).index
    (g.C.Cells.contents c.args.cells.now).values aligned within in
    let blocks = c.has_coherent_blocks.ensures.blocks in
    (λ yes. both.0 (blocks.0 yes), λ coherent. blocks.1 (both.1 coherent))
