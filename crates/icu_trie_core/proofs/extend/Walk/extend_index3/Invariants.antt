use Rattle.std.proofs.Common.{◌≡◌, ℕ, ◌+◌, ◌*◌, ◌<◌, ◌≤◌, Some, min}
use Rattle.std.specs.Option.{option_len}
use Rattle.icu_trie_core.specs.Format.{offset_in_block}
use Rattle.icu_trie_core.specs.Inside.Walk.{block_seen, cell_seen, Holds, IsRemembered, SharesBlocks}
use Rattle.icu_trie_core.proofs.extend.Walk.extend_index3.Given as goal

-- The value extends up to the block of 16 with this number, the last block is remembered, and
-- shared blocks were not read again.
abbrev pub invariant-loop-block : goal.invariant-loop-block
invariant-loop-block g l =
    let cells = g.C.Cells.contents l.fn.cells in
    let of_number = g.T.TrieValue.of_number in
    let h = l.self.header.now in
    let start = l.fn.range.start in
    let len = l.fn.range.end in
    record {
      kept : g.C.Cells.contents l.cells ≡ cells;
      equal : Holds (cell_seen of_number h cells l.cell) start (min (l.block * 16) len) l.self.value;
      remembered : l.block * 16 ≤ len → IsRemembered (block_seen of_number h cells.values) 16 l.remembered l.self.value;
      stands : (o : ℕ) → l.remembered ≡ Some o → (q : ℕ) × (start ≤ q * 16) × (q < l.block)
          × (offset_in_block cells.index l.cell q ≡ Some o);
      reads : SharesBlocks of_number h cells l.cell → len ≡ 512
          → g.C.Cells.reads l.cells ≤ g.C.Cells.reads l.fn.cells + 2 * l.block + 16 * option_len l.remembered;
    }
