use Rattle.std.proofs.Common.{◌≡◌, ℕ, ◌<◌, ◌≤◌, None, get_or, length}
use Rattle.icu_trie_builder.specs.Inside.FilledBlocks.{IsFilled}
use Rattle.icu_trie_builder.proofs.data.null_block.find_filled.Given as goal

abbrev pub invariant-loop-number : goal.invariant-loop-number
invariant-loop-number l = l.wanted ≡ None → (j value : ℕ) → l.number ≤ j → j < length l.offsets
    → IsFilled value l.size (get_or l.offsets j 0) l.cells → ⊥
