use Rattle.std.proofs.Common.{◌<◌, ℕ}
use Rattle.icu_trie_builder.specs.Inside.Index.Layout.{IsNullBlock}
use Rattle.icu_trie_builder.proofs.index.null_block.Given as goal

abbrev pub invariant-loop-number : goal.invariant-loop-number
invariant-loop-number l = (i : ℕ) → i < l.number → IsNullBlock l.null l.offsets i → ⊥
