use Rattle.std.proofs.Common.{◌≡◌, ◌+◌, ◌≤◌}
use Rattle.icu_trie_core.specs.Inside.Walk.{block_cells, Holds}
use Rattle.icu_trie_core.proofs.extend.Walk.extend_by_cells.Given as goal

abbrev pub invariant-loop-position : goal.invariant-loop-position
invariant-loop-position g l = record {
  kept : g.C.Cells.contents l.cells ≡ g.C.Cells.contents l.fn.cells;
  reads : g.C.Cells.reads l.cells + l.range.start ≤ g.C.Cells.reads l.fn.cells + l.position;
  equal : Holds (block_cells (g.C.Cells.contents l.fn.cells).values l.offset) l.range.start l.position l.self.value;
}
