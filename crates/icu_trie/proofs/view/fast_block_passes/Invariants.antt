use Rattle.std.proofs.Common.{drop}
use Rattle.icu_zerovec.specs.Slice.{slice_values}
use Rattle.icu_trie.proofs.FastCells.{Decides}
use Rattle.icu_trie.proofs.view.fast_block_passes.Given as goal

abbrev pub invariant-loop-i : goal.invariant-loop-i
invariant-loop-i l = Decides l.len (slice_values l.cells) l.i l.lower
    × Decides l.len (drop l.half (slice_values l.cells)) l.i l.upper
