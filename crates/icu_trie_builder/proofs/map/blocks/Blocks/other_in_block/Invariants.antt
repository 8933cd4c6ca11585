use Rattle.std.proofs.Common.{◌≡◌, ℕ, ◌+◌, ◌*◌, ◌<◌, ◌≤◌, slice_index}
use Rattle.icu_trie_builder.proofs.map.blocks.Blocks.other_in_block.Given as goal

abbrev pub invariant-loop-i : goal.invariant-loop-i
invariant-loop-i l = (k : ℕ) → 16 * l.block + l.from ≤ k → k < 16 * l.block + l.i → slice_index l.self.numbers k ≡ l.number
