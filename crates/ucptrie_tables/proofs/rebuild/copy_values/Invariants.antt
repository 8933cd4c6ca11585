use Rattle.std.proofs.Common.{◌≡◌, ℕ, ◌-◌, ◌<◌, ◌≤◌}
use Rattle.icu_trie_builder.specs.CodePointMap.{map_value}
use Rattle.ucptrie_tables.proofs.rebuild.copy_values.Given as goal

-- The code points below `next` have their values.
abbrev pub invariant-loop-run : goal.invariant-loop-run
invariant-loop-run l = record {
  within : l.next ≤ 0x110000;
  copied : (u : ℕ) → u < l.next → map_value l.to u ≡ map_value l.from u;
  default : l.to.default ≡ l.initial.to.default;
  error : l.to.error ≡ l.initial.to.error;
  trie_type : l.to.trie_type ≡ l.initial.to.trie_type;
}

abbrev pub decreases-loop-run : goal.decreases-loop-run
decreases-loop-run l = 0x110000 - l.next
