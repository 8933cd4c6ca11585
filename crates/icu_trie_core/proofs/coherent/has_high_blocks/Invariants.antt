use Rattle.std.proofs.Common.{min, ◌≡◌, ◌+◌, ◌*◌, ◌<◌, ◌≤◌, ℕ, slice_get, Some, IsSomeAnd}
use Rattle.icu_trie_core.specs.Inside.CoherentBlocks.{AreAll}
use Rattle.icu_trie_core.proofs.coherent.has_high_blocks.Given as goal

abbrev pub invariant-loop-block : goal.invariant-loop-block
invariant-loop-block g l =
    let index = (g.C.Cells.contents l.fn.cells).index in
    let values = (g.C.Cells.contents l.fn.cells).values in
    record {
      kept : g.C.Cells.contents l.cells ≡ g.C.Cells.contents l.fn.cells;
      reads : g.C.Cells.reads l.cells ≤ g.C.Cells.reads l.fn.cells + 65 * min l.block 1024;
      known : (o : ℕ) → l.known ≡ Some o → AreAll values 64 o l.high;
      blocks : (b : ℕ) → l.header.high_start ≤ b * 64 → b < l.block
          → IsSomeAnd (slice_get index b) (λ offset. AreAll values 64 offset l.high);
    }
