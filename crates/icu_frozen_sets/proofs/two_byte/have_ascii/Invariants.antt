use Rattle.std.proofs.Common.{◌≡◌, ℕ, ◌<◌, ◌≤◌, true, false, get_or}
use Rattle.icu_frozen_sets.proofs.two_byte.have_ascii.Given as goal

abbrev pub invariant-loop-k : goal.invariant-loop-k
invariant-loop-k l = record {
  yes : l.ascii ≡ true → (i : ℕ) × (i < 16) × (get_or l.bytes i 0 < 128);
  no : l.ascii ≡ false → (i : ℕ) → i < l.k → 128 ≤ get_or l.bytes i 0;
}
