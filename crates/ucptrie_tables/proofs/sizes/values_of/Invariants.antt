use Rattle.std.proofs.Common.{◌≡◌, ℕ, ◌<◌, Some, length, slice_index, vec_len}
use Rattle.icu_trie.specs.Parts.{trie_value}
use Rattle.ucptrie_tables.proofs.sizes.values_of.Given as goal

-- the values so far
abbrev pub invariant-loop-c : goal.invariant-loop-c
invariant-loop-c l = record {
  len : vec_len l.values ≡ l.c;
  items : length l.values.items ≡ l.c;
  values : (u : ℕ) → u < l.c → trie_value l.trie u ≡ Some (slice_index l.values.items u);
}
