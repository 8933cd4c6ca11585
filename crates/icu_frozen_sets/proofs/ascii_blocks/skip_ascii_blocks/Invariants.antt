use Rattle.std.proofs.Common.{◌≡◌, ℕ, ◌-◌, ◌<◌, ◌≤◌, get_or, length}
use Rattle.icu_frozen_sets.proofs.ascii_blocks.skip_ascii_blocks.Given as goal

abbrev pub invariant-loop-end : goal.invariant-loop-end
invariant-loop-end l = record {
  order : l.start ≤ l.end;
  within : l.end ≤ length l.bytes;
  ascii : (i : ℕ) → l.start ≤ i → i < l.end → get_or l.bytes i 0 < 128;
  passed : (i : ℕ) → l.start ≤ i → i < l.end → get_or l.others (get_or l.bytes i 0) 0 ≡ 0;
}

abbrev pub decreases-loop-end : goal.decreases-loop-end
decreases-loop-end l = length l.bytes - l.end
