use Rattle.icu_trie_builder.specs.Inside.Map.Blocks.{IsWritten}
use Rattle.icu_trie_builder.proofs.map.blocks.fill_range.Given as goal

abbrev pub invariant-loop-i : goal.invariant-loop-i
invariant-loop-i l = IsWritten l.initial.cells l.cells l.start l.i l.number
