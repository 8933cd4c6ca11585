use Rattle.std.proofs.Common.{◌≡◌, ℕ, ◌-◌, ◌<◌, ◌≤◌, slice_index}
use Rattle.icu_trie_builder.proofs.map.blocks.Blocks.find_other.Given as goal

abbrev pub invariant-loop-from : goal.invariant-loop-from
invariant-loop-from l = record {
  from : l.start ≤ l.from;
  within : l.from ≤ 0x110000;
  same : (c : ℕ) → l.start ≤ c → c < l.from → slice_index l.self.numbers c ≡ l.number;
}

abbrev pub decreases-loop-from : goal.decreases-loop-from
decreases-loop-from l = 0x110000 - l.from
