use Rattle.std.proofs.Common.{rules}
use Rattle.icu_trie_builder.proofs.IndexLemmas.Shared.{grown-all}
use Rattle.icu_trie_builder.proofs.index.widened.Goals as goal

pub returns : goal.returns
returns c = grown-all c.args.cells.now c.loop-cell.wide.items (search rules)
