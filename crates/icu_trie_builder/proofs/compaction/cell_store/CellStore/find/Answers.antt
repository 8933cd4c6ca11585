use Rattle.std.proofs.Common.{sym, subst}
use Rattle.icu_trie_builder.specs.Inside.Compaction.Windows.{IsTable}
use Rattle.icu_trie_builder.proofs.CompactionLemmas.TableLemmas.{tables-set}
use Rattle.icu_trie_builder.proofs.compaction.cell_store.CellStore.find.Goals as goal

pub invariant_of-self : goal.invariant_of-self
invariant_of-self c = record {
  few = c.self.invariant.few;
  tables = c.table_index.ensures.tables c.self.inside.cells.items c.self.invariant.tables;
}

pub complete-requires-clause-table : goal.complete-requires-clause-table
complete-requires-clause-table c =
    let cells = c.self.inside.cells.items in
    let t = c.index_mut-table.result.now in
    let here = c.table_index.ensures.tables cells c.self.invariant.tables c.in_ok-i.i t c.in_ok-i.ensures.index.0 in
    rw c.deref.ensures.value (subst (λ t. IsTable cells t) (sym c.index_mut-table.ensures.value) here)

pub invariant_of-self-in_err-complete : goal.invariant_of-self-in_err-complete
invariant_of-self-in_err-complete c = record {
  few = c.self.invariant.few;
  tables = tables-set c.self.inside.cells.items c.table_index.new.tables.items c.in_ok-i.i c.complete.new.self
      (c.table_index.ensures.tables c.self.inside.cells.items c.self.invariant.tables)
      (rw c.deref.ensures.value at c.complete.ensures.table);
}

pub invariant_of-self-2 : goal.invariant_of-self-2
invariant_of-self-2 c = record {
  few = c.self.invariant.few;
  tables = tables-set c.self.inside.cells.items c.table_index.new.tables.items c.in_ok-i.i c.complete.new.self
      (c.table_index.ensures.tables c.self.inside.cells.items c.self.invariant.tables)
      (rw c.deref.ensures.value at c.complete.ensures.table);
}
