use Rattle.std.proofs.Common.{◌≡◌, ◌≤◌, ◌+◌}
use Rattle.icu_trie_core.specs.Inside.CoherentBlocks.{AreAll}
use Rattle.icu_trie_core.proofs.coherent.are_all.Given as goal

abbrev pub invariant-loop-place : goal.invariant-loop-place
invariant-loop-place g l = record {
  kept : g.C.Cells.contents l.cells ≡ g.C.Cells.contents l.fn.cells;
  reads : g.C.Cells.reads l.cells ≤ g.C.Cells.reads l.fn.cells + l.place;
  all : AreAll (g.C.Cells.contents l.fn.cells).values l.place l.offset l.value;
}
