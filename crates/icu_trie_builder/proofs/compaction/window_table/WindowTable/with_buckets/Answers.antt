use Rattle.std.proofs.Common.{rules}
use Rattle.icu_trie_builder.proofs.CompactionLemmas.TableLemmas.{table-none}
use Rattle.icu_trie_builder.proofs.compaction.window_table.WindowTable.with_buckets.Goals as goal

pub returns-clause-table : goal.returns-clause-table
returns-clause-table c = λ cells. table-none cells _ c.requires.some_cells (search rules) (search rules) (search rules) (search rules)
    (search rules) (search rules) (search rules)
