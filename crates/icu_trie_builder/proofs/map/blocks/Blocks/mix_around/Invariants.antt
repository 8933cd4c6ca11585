use Rattle.std.proofs.Common.{◌≡◌, ℕ, ◌<◌, ◌≤◌, true}
use Rattle.icu_trie_builder.specs.Inside.Map.Blocks.{is_mixed}
use Rattle.icu_trie_builder.proofs.map.blocks.Blocks.mix_around.Given as goal

abbrev pub invariant-loop-other : goal.invariant-loop-other
invariant-loop-other l = record {
  same : l.self.numbers ≡ l.initial.self.numbers;
  kept : (i : ℕ) → is_mixed l.initial.self.mixed i ≡ true → is_mixed l.self.mixed i ≡ true;
  made : (i : ℕ) → l.first ≤ i → i < l.other → is_mixed l.self.mixed i ≡ true;
}
