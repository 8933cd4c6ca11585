use Rattle.std.proofs.Common.{◌≡◌, ℕ, ◌+◌, ◌<◌, ◌≤◌, length}
use Rattle.icu_trie_builder.specs.Inside.Compaction.Hashes.{bucket}
use Rattle.icu_trie_builder.specs.Inside.Compaction.Windows.{entry, entry_count}
use Rattle.icu_trie_builder.proofs.compaction.window_table.WindowTable.find.Given as goal

abbrev pub invariant-loop-at : goal.invariant-loop-at
invariant-loop-at l = record {
  bound : l.at ≤ entry_count l.self;
  own : (e : ℕ) → l.at ≡ e + 1 → bucket (length l.self.heads.items) (entry l.self.size l.self.starts.items l.cells e)
      ≡ bucket (length l.self.heads.items) l.wanted;
  all : (e : ℕ) → e < entry_count l.self → entry l.self.size l.self.starts.items l.cells e ≡ l.wanted → e < l.at;
}

abbrev pub decreases-loop-at : goal.decreases-loop-at
decreases-loop-at l = l.at
