use Rattle.std.proofs.Common.{◌≡◌, ℕ, ◌<◌, true, get_or}
use Rattle.icu_frozen_sets.proofs.ascii_blocks.are_plain.Given as goal

abbrev pub invariant-loop-k : goal.invariant-loop-k
invariant-loop-k l = l.plain ≡ true → (i : ℕ) → i < l.k → get_or l.others (get_or l.bytes i 0) 0 ≡ 0
