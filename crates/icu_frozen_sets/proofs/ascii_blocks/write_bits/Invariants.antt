use Rattle.std.proofs.Common.{◌≡◌, ℕ, ◌+◌, ◌<◌, get_or, length}
use Rattle.std.specs.Int.{bit_at}
use Rattle.icu_frozen_sets.proofs.ascii_blocks.write_bits.Given as goal

abbrev pub invariant-loop-j : goal.invariant-loop-j
invariant-loop-j l = record {
  all : length l.others ≡ 256;
  bits : (i : ℕ) → i < l.j → get_or l.others (l.start + i) 0 ≡ 0 → bit_at l.bits i ≡ 0;
  before : (i : ℕ) → i < l.start → get_or l.others i 0 ≡ get_or l.initial.others i 0;
}
