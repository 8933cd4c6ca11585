use Rattle.std.proofs.Common.{◌≡◌, ◌≢◌, ℕ, ◌<◌, ◌≤◌, get_or}
use Rattle.icu_trie_builder.proofs.data.null_block.rename.Given as goal

abbrev pub invariant-loop-offset : goal.invariant-loop-offset
invariant-loop-offset l = record {
  renamed : (j : ℕ) → j < l.offset-index → get_or l.initial.offsets j 0 ≡ l.from → get_or l.offsets j 0 ≡ l.to;
  others : (j : ℕ) → get_or l.initial.offsets j 0 ≢ l.from → get_or l.offsets j 0 ≡ get_or l.initial.offsets j 0;
  after : (j : ℕ) → l.offset-index ≤ j → get_or l.offsets j 0 ≡ get_or l.initial.offsets j 0;
}
