use Rattle.std.proofs.Common.{◌≡◌, ◌+◌, ◌-◌, ◌*◌, ◌/◌, ◌<◌, ◌≤◌, slice_get, min}
use Rattle.icu_trie_core.specs.Coherence.{IsCoherent, IsShared}
use Rattle.icu_trie_core.specs.Seen.{seen}
use Rattle.icu_trie_core.specs.Inside.Walk.{block_seen, fast_end, Holds, IsRemembered}
use Rattle.icu_trie_core.proofs.extend.Walk.extend_fast.Given as goal

-- The value extends up to `block`, the last block is remembered, and shared blocks were not read
-- again.
abbrev pub invariant-loop-block : goal.invariant-loop-block
invariant-loop-block g l =
    let cells = g.C.Cells.contents l.fn.cells in
    let of_number = g.T.TrieValue.of_number in
    let h = l.self.header.now in
    record {
      kept : g.C.Cells.contents l.cells ≡ cells;
      equal : Holds (seen of_number h cells) l.start (min (l.block * 64) (fast_end h)) l.self.value;
      remembered : l.block * 64 ≤ fast_end h → IsRemembered (block_seen of_number h cells.values) 64 l.remembered l.self.value;
      last : l.start / 64 < l.block → l.remembered ≡ slice_get cells.index (l.block - 1);
      reads : IsCoherent of_number h cells → IsShared h cells
          → g.C.Cells.reads l.cells + l.start / 64 ≤ g.C.Cells.reads l.fn.cells + l.block + 64 * min (l.block - l.start / 64) 4;
    }
