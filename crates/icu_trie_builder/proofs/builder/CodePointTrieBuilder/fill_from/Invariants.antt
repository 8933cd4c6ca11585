use Rattle.std.proofs.Common.{◌≡◌, ℕ, ◌-◌, ◌<◌, ◌≤◌, Some}
use Rattle.icu_trie.specs.Parts.{trie_value}
use Rattle.icu_trie_builder.specs.CodePointMap.{map_value}
use Rattle.icu_trie_builder.proofs.builder.CodePointTrieBuilder.fill_from.Given as goal

-- The code points below `next` have the trie's values, and the others have the default.
abbrev pub invariant-loop-next : goal.invariant-loop-next
invariant-loop-next g l = record {
  within : l.next ≤ 0x110000;
  filled : (u : ℕ) → u < l.next → trie_value l.trie u ≡ Some (map_value l.self u);
  blank : (u : ℕ) → l.next ≤ u → u < 0x110000 → map_value l.self u ≡ l.self.default;
  default : l.self.default ≡ l.initial.self.default;
  error : l.self.error ≡ l.initial.self.error;
  trie_type : l.self.trie_type ≡ l.initial.self.trie_type;
}

abbrev pub decreases-loop-next : goal.decreases-loop-next
decreases-loop-next g l = 0x110000 - l.next
