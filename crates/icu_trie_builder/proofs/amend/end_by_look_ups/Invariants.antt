use Rattle.std.proofs.Common.{◌≡◌, ℕ, ◌<◌, ◌≤◌, Some}
use Rattle.icu_trie.specs.Parts.{trie_value}
use Rattle.icu_trie_builder.proofs.amend.end_by_look_ups.Given as goal

abbrev pub invariant-loop-next : goal.invariant-loop-next
invariant-loop-next g l = (u : ℕ) → l.c ≤ u → u < l.next → trie_value l.trie u ≡ Some l.value
