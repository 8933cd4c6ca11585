use Rattle.std.proofs.Common.{◌≡◌, ◌≤◌, ◌+◌, ◌<◌, ℕ, slice_get, IsSomeAnd}
use Rattle.icu_trie_core.specs.Inside.CoherentBlocks.{IsBlock}
use Rattle.icu_trie_core.proofs.coherent.has_fast_blocks.Given as goal

abbrev pub invariant-loop-block : goal.invariant-loop-block
invariant-loop-block g l = record {
  kept : g.C.Cells.contents l.cells ≡ g.C.Cells.contents l.fn.cells;
  reads : g.C.Cells.reads l.cells ≤ g.C.Cells.reads l.fn.cells + 64 + l.block;
  blocks : (b : ℕ) → b < l.block → IsSomeAnd (slice_get (g.C.Cells.contents l.fn.cells).index b)
      (IsBlock g.T.TrieValue.of_number l.header (g.C.Cells.contents l.fn.cells).values 64);
}
