use Rattle.std.proofs.Common.{◌≡◌, take}
use Rattle.icu_trie_builder.specs.Inside.Compaction.Hashes.{cells_hash}
use Rattle.icu_trie_builder.proofs.compaction.hashing.hash_of.Given as goal

abbrev pub invariant-loop-cell : goal.invariant-loop-cell
invariant-loop-cell l = l.hash ≡ cells_hash (take l.cell-index l.cells)
