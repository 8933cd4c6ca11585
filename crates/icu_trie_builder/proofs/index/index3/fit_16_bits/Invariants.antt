use Rattle.std.proofs.Common.{◌<◌, ℕ, slice_index}
use Rattle.icu_trie_builder.proofs.index.index3.fit_16_bits.Given as goal

abbrev pub invariant-loop-offset : goal.invariant-loop-offset
invariant-loop-offset l = (i : ℕ) → i < l.offset-index → slice_index l.offsets i < 0x10000
