use Rattle.std.proofs.Common.{◌≡◌, ℕ, ◌*◌, ◌/◌, ◌%◌, ◌<◌, true, get_or, length}
use Rattle.std.specs.Prelude.{◌==◌}
use Rattle.std.specs.Int.{bit_at}
use Rattle.icu_frozen_sets.proofs.ascii_blocks.others_of.Given as goal

abbrev pub invariant-loop-k : goal.invariant-loop-k
invariant-loop-k l = record {
  all : length l.others ≡ 256;
  says : (c : ℕ) → c < 8 * l.k → get_or l.others c 0 ≡ 0
      → (bit_at (get_or l.words (c / 64) 0) (c % 64) == 1) ≡ true;
}
