use Rattle.icu_trie_core.proofs.RangeLemmas.{LongestRun-from_gives}
use Rattle.icu_trie_core.proofs.walk.walk.Goals as goal

pub returns-clause-longest : goal.returns-clause-longest
returns-clause-longest g c = λ coherent lt.
    LongestRun-from_gives g.T.TrieValue.of_number c.args.header.now (g.C.Cells.contents c.args.cells.now).index
    (g.C.Cells.contents c.args.cells.now).values c.args.c coherent c.walk_any.result c.walk_any.ensures.gives lt
