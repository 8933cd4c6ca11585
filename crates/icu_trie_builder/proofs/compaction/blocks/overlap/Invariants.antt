use Rattle.std.proofs.Common.{◌≢◌, ℕ, ◌-◌, ◌<◌, ◌≤◌, length, take, drop}
use Rattle.icu_trie_builder.proofs.compaction.blocks.overlap.Given as goal

abbrev pub invariant-loop-common : goal.invariant-loop-common
invariant-loop-common l = record {
  below : l.common < length l.wanted;
  inside : l.common ≤ length l.stored;
  longest : (m : ℕ) → l.common < m → m < length l.wanted → m ≤ length l.stored → drop (length l.stored - m) l.stored ≢ take m l.wanted;
}

abbrev pub decreases-loop-common : goal.decreases-loop-common
decreases-loop-common l = l.common
