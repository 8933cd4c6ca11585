use Rattle.std.proofs.Common.{min, ◌≡◌, ◌+◌, ◌*◌, ◌<◌, ◌≤◌, ℕ, Some, IsSomeAnd}
use Rattle.icu_trie_core.specs.Contents.{contents_of}
use Rattle.icu_trie_core.specs.Format.{fast_limit, index2_cell}
use Rattle.icu_trie_core.specs.Inside.CoherentBlocks.{IsCell}
use Rattle.icu_trie_core.proofs.coherent.has_small_blocks.Given as goal

abbrev pub invariant-loop-block : goal.invariant-loop-block
invariant-loop-block g l =
    let index = (g.C.Cells.contents l.fn.cells).index in
    let values = (g.C.Cells.contents l.fn.cells).values in
    record {
      kept : g.C.Cells.contents l.cells ≡ g.C.Cells.contents l.fn.cells;
      reads : g.C.Cells.reads l.cells ≤ g.C.Cells.reads l.fn.cells + 592 + 66 * min l.block 2176;
      known : (o : ℕ) → l.known ≡ Some o → IsCell g.T.TrieValue.of_number l.header (contents_of index values) o;
      blocks : (b : ℕ) → fast_limit l.header.trie_type ≤ b * 512 → b < l.block
          → IsSomeAnd (index2_cell l.header.trie_type index (b * 512)) (IsCell g.T.TrieValue.of_number l.header (contents_of index values));
    }
