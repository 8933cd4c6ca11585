use Rattle.std.proofs.Common.{◌≡◌, ℕ, ◌+◌, ◌<◌, get_or, length}
use Rattle.icu_frozen_sets.proofs.view.first_words.Given as goal

abbrev pub invariant-loop-k : goal.invariant-loop-k
invariant-loop-k l = record {
  all : length l.words ≡ 32;
  low : (i : ℕ) → i < l.k → get_or l.words i 0 ≡ get_or l.table (l.first + i) 0;
  high : (i : ℕ) → i < l.k → get_or l.words (i + 16) 0 ≡ get_or l.table (l.second + i) 0;
}
