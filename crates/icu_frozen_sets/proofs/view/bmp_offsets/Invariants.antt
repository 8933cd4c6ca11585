use Rattle.std.proofs.Common.{◌≡◌, ℕ, ◌<◌, ◌≤◌, get_or, length}
use Rattle.icu_frozen_sets.specs.FrozenWords.{place_in}
use Rattle.icu_frozen_sets.proofs.view.bmp_offsets.Given as goal

abbrev pub invariant-loop-b : goal.invariant-loop-b
invariant-loop-b l = record {
  all : length l.offsets ≡ 64;
  own : (i : ℕ) → i < l.b → get_or l.offsets i 0 ≡ place_in l.table i;
  rest : (i : ℕ) → l.b ≤ i → i < 64 → get_or l.offsets i 0 ≡ place_in l.table 64;
}
