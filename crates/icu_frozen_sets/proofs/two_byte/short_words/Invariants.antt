use Rattle.std.proofs.Common.{◌≡◌, ℕ, ◌/◌, ◌<◌, length}
use Rattle.icu_frozen_sets.proofs.TwoByteLemmas.{SaysOf}
use Rattle.icu_frozen_sets.proofs.two_byte.short_words.Given as goal

abbrev pub invariant-loop-k : goal.invariant-loop-k
invariant-loop-k l = record {
  all : length l.words ≡ 36;
  says : (c : ℕ) → c / 64 < l.k → SaysOf l.table l.held l.words c;
}
