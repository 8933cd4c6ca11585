use Rattle.std.proofs.Common.{◌≡◌, ◌≤◌, ◌+◌, ◌*◌, ◌<◌, ℕ, IsSomeAnd}
use Rattle.icu_trie_core.specs.Format.{offset_in_block}
use Rattle.icu_trie_core.specs.Inside.CoherentBlocks.{IsBlock}
use Rattle.icu_trie_core.proofs.coherent.names_blocks.Given as goal

abbrev pub invariant-loop-place : goal.invariant-loop-place
invariant-loop-place g l = record {
  kept : g.C.Cells.contents l.cells ≡ g.C.Cells.contents l.fn.cells;
  reads : g.C.Cells.reads l.cells ≤ g.C.Cells.reads l.fn.cells + 2 * l.place;
  blocks : (p : ℕ) → p < l.place → IsSomeAnd (offset_in_block (g.C.Cells.contents l.fn.cells).index l.cell p)
      (IsBlock g.T.TrieValue.of_number l.header (g.C.Cells.contents l.fn.cells).values 16);
}
