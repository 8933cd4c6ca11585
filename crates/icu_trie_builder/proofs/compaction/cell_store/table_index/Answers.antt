use Rattle.icu_trie_builder.proofs.CompactionLemmas.TableLemmas.{tables-push}
use Rattle.icu_trie_builder.proofs.compaction.cell_store.table_index.Goals as goal

pub returns-clause-tables : goal.returns-clause-tables
returns-clause-tables c = λ cells all. rw c.in_ok-push.ensures.items
    (tables-push cells c.args.tables.now.items c.in_ok-table.table all (c.in_ok-table.ensures.table cells))
