use Rattle.std.proofs.Common.{◌≡◌, ℕ, ◌<◌, true, false, slice_index}
use Rattle.icu_trie_builder.specs.Inside.Map.Blocks.{is_mixed}
use Rattle.icu_trie_builder.proofs.map.blocks.are_one.Given as goal

abbrev pub invariant-loop-i : goal.invariant-loop-i
invariant-loop-i l = l.all ≡ true → (k : ℕ) → k < l.i → (is_mixed l.mixed k ≡ false) × (slice_index l.places k ≡ l.number)
