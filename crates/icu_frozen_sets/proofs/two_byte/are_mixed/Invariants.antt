use Rattle.std.proofs.Common.{◌≡◌, ℕ, ◌<◌, ◌≤◌, true, false, get_or}
use Rattle.icu_frozen_sets.proofs.two_byte.are_mixed.Given as goal

abbrev pub invariant-loop-k : goal.invariant-loop-k
invariant-loop-k l = record {
  yes : l.mixed ≡ true → (i : ℕ) × (i < 8) × (128 ≤ get_or l.bytes i 0);
  no : l.mixed ≡ false → (i : ℕ) → i < l.k → get_or l.bytes i 0 < 128;
}
