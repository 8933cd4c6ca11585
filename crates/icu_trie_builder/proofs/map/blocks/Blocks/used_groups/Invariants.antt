use Rattle.std.proofs.Common.{◌≡◌, ℕ, ◌*◌, ◌<◌, ◌≤◌, slice_index}
use Rattle.icu_trie_builder.proofs.map.blocks.Blocks.used_groups.Given as goal

abbrev pub invariant-loop-count : goal.invariant-loop-count
invariant-loop-count l = record {
  within : l.count ≤ 0x11000;
  after : (c : ℕ) → 16 * l.count ≤ c → c < 0x110000 → slice_index l.self.numbers c ≡ l.number;
}

abbrev pub decreases-loop-count : goal.decreases-loop-count
decreases-loop-count l = l.count
