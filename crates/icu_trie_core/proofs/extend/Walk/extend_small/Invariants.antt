use Rattle.std.proofs.Common.{◌≡◌, ℕ, ◌+◌, ◌*◌, ◌/◌, ◌<◌, ◌≤◌, Some, min}
use Rattle.std.specs.Option.{option_len}
use Rattle.icu_trie_core.specs.Coherence.{IsCoherent, IsShared}
use Rattle.icu_trie_core.specs.Format.{index2_cell}
use Rattle.icu_trie_core.specs.Seen.{seen}
use Rattle.icu_trie_core.specs.Inside.Walk.{blocks_end, cell_seen, Holds, IsRemembered}
use Rattle.icu_trie_core.proofs.extend.Walk.extend_small.Given as goal

-- The value extends up to the block of 512 with this number, the index-2 cell of the last block is
-- remembered, and shared blocks were not read again.
abbrev pub invariant-loop-block : goal.invariant-loop-block
invariant-loop-block g l =
    let cells = g.C.Cells.contents l.fn.cells in
    let of_number = g.T.TrieValue.of_number in
    let h = l.self.header.now in
    record {
      kept : g.C.Cells.contents l.cells ≡ cells;
      equal : Holds (seen of_number h cells) l.start (min (l.block * 512) (blocks_end h)) l.self.value;
      remembered : l.block * 512 ≤ blocks_end h → IsRemembered (cell_seen of_number h cells) 512 l.remembered l.self.value;
      stands : (o : ℕ) → l.remembered ≡ Some o → (d : ℕ) × (l.start ≤ d * 512) × (d < l.block)
          × (index2_cell h.trie_type cells.index (d * 512) ≡ Some o);
      reads : IsCoherent of_number h cells → IsShared h cells
          → g.C.Cells.reads l.cells + 2 * (l.start / 512) ≤ g.C.Cells.reads l.fn.cells + 2 * l.block + 112 * option_len l.remembered;
    }
